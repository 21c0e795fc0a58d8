-- The number of a row of the table is less than 256.
use Rattle.std.proofs.Common.{◌≡◌, ℕ, suc, ◌<◌, [], length, Option, None, Some, unwrap_or, refl, sym, ap, ◌∙◌, arith}
use Rattle.std.specs.Option.{option_map}
use Rattle.std.proofs.lemmas.Option.{slice_get_within}
use Rattle.scalar_ops.specs.declared.table.TheConstants.{OPS}
use Rattle.scalar_ops.specs.declared.table.OpRow.{OpRow}
use Rattle.scalar_ops.specs.Meaning.{row_at, kinds_at}
use Rattle.scalar_ops.specs.Table.{kinds_of_args}

-- a row with arguments is one of the table
pub row_below : (row n : ℕ) → length (kinds_at row) ≡ suc n → row < 256
row_below row n has = by (row_at row) refl
  where
    by : (o : Option OpRow) → row_at row ≡ o → row < 256
    by (Some r) is =
        let below : row < length OPS.rows = slice_get_within OPS.rows row r is in
        let size : length OPS.rows ≡ 32 = refl in
        omega (arith, below, size)
    by None is =
        let none : 0 ≡ suc n = ap (λ o. length (unwrap_or (option_map (λ (r : OpRow). kinds_of_args r.args) o) [])) (sym is) ∙ has in
        absurd (omega (arith, none))
