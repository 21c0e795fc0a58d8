-- The row of a call has the call's operation, and is the one for its arguments' kinds.
use Rattle.std.proofs.Common.{◌≡◌, refl, sym, ap, ◌∙◌, ℕ, ◌<◌, ◌^◌, Bool, true, false, cond, List, [], ◌∷◌, map, slice_get, get_or, Option, None, Some, unwrap_or, IsSome, arith}
use Rattle.std.proofs.lemmas.Bool.{false≢true}
use Rattle.std.specs.Option.{option_map, option_and_then, IfSome, IsSomeAnd}
use Rattle.std.proofs.lemmas.Option.{slice_get-get_or}
use Rattle.std.proofs.lemmas.List.Quantifiers.{position-Some}
use Rattle.std.specs.List.{position}
use Rattle.std.specs.Cmp.Lexicographic.{pointwise, pointwise_decides}
use Rattle.scalar_ops.specs.declared.cell.CellKind.{CellKind}
use Rattle.scalar_ops.specs.declared.cell.CellKind.TheVariants as kind
use Rattle.scalar_ops.specs.declared.table.Args.TheVariants.{One}
use Rattle.scalar_ops.specs.declared.table.Op.{Op}
use Rattle.scalar_ops.specs.declared.table.Op.TheVariants as op
use Rattle.scalar_ops.specs.declared.table.OpRow.{OpRow}
use Rattle.scalar_ops.specs.declared.table.TheConstants.{OPS}
use Rattle.scalar_ops.specs.Cells.{same_cell_kind}
use Rattle.scalar_ops.specs.Table.{kinds_of_args, IsRowFor, is_row_for}
use Rattle.scalar_ops.specs.Meaning.{op_at}
use Rattle.scalar_ops.proofs.RowLaws.{same_cell_kind-Decides, is_row_for-Decides, found_row}
use Rattle.plan_core.specs.PlanTyping.{all_there}
use Rattle.plan_core.specs.ExpressionKind.{call_kind}
use Rattle.plan_binder.specs.OpRows.{row_with, first_row, row_for}

some_row : OpRow
some_row = record { op = op.Not; args = One kind.Bool; result = kind.Bool; overflows = false }

is_row : (o : Op) (kinds : List CellKind) (row : OpRow) → is_row_for o kinds row ≡ true → IsRowFor o kinds row
is_row o kinds row e = (is_row_for-Decides o kinds row).0 e

-- a place that is found is a number of 32 bits
below_all : (o : Option ℕ) → ((i : ℕ) → o ≡ Some i → i < 32) → IfSome o (λ i. i < 2 ^ 32)
below_all None all = tt
below_all (Some i) all = let below : i < 32 = all i refl in omega arith

pub place_below : (p : OpRow → Bool) (o : Option ℕ) → o ≡ position p OPS.rows → IfSome o (λ i. i < 2 ^ 32)
place_below p o e = below_all o (λ i is. (position-Some p OPS.rows i some_row (sym e ∙ is)).0)

-- ---- the row of a call

row_operation : (o : Op) (row : OpRow) (i : ℕ) → slice_get OPS.rows i ≡ Some row → row.op ≡ o → op_at i ≡ o
row_operation o row i there e = ap (λ (r : Option OpRow). unwrap_or (option_map (λ r. r.op) r) op.Not) there ∙ e

with_operation : (o : Op) (kinds : List CellKind) (i : ℕ) → row_with o kinds ≡ Some i → op_at i ≡ o
unfolding row_with
with_operation o kinds i e =
    let found = position-Some (is_row_for o kinds) OPS.rows i some_row e in
    row_operation o (get_or OPS.rows i some_row) i (slice_get-get_or OPS.rows i some_row found.0) (is_row o kinds (get_or OPS.rows i some_row) found.1).0

first_operation : (o : Op) → op_at (first_row o) ≡ o
unfolding first_row
first_operation op.Add = refl
first_operation _ = refl

pub keeps_operation : (o : Op) (kinds : List (Option CellKind)) → op_at (row_for o kinds) ≡ o
keeps_operation o kinds = go (all_there kinds)
  where
    by_row : (ks : List CellKind) (r : Option ℕ) → row_with o ks ≡ r → op_at (unwrap_or r (first_row o)) ≡ o
    by_row ks None e = first_operation o
    by_row ks (Some i) e = with_operation o ks i e

    go : (ks : Option (List CellKind)) → op_at (unwrap_or (option_and_then (row_with o) ks) (first_row o)) ≡ o
    go None = first_operation o
    go (Some ks) = by_row ks (row_with o ks) refl

all_there-some : {A : Type 0} (xs : List A) → all_there (map Some xs) ≡ Some xs
all_there-some [] = refl
all_there-some (x ∷ xs) = ap (option_and_then (λ others. Some (x ∷ others))) (all_there-some xs)

-- a row that has the operation and gives a kind at these kinds is the one that is found
row_found : (o : Op) (kinds : List CellKind) (i : ℕ) → op_at i ≡ o → IsSome (call_kind i kinds) → row_with o kinds ≡ Some i
unfolding row_with
row_found o kinds i e typed = found_row o kinds i (go (slice_get OPS.rows i) refl typed)
  where
    fits : (r : OpRow) (same : Bool) → pointwise same_cell_kind kinds (kinds_of_args r.args) ≡ same → IsSome (cond same (Some r.result) None) → kinds_of_args r.args ≡ kinds
    fits r true is some = sym ((pointwise_decides same_cell_kind-Decides kinds (kinds_of_args r.args)).0 is)
    fits r false is some = absurd (false≢true some)

    go : (r : Option OpRow) → slice_get OPS.rows i ≡ r
        → IsSome (option_and_then (λ r. cond (pointwise same_cell_kind kinds (kinds_of_args r.args)) (Some r.result) None) r)
        → IsSomeAnd r (IsRowFor o kinds)
    go None there some = absurd (false≢true some)
    go (Some r) there some = (sym (row_operation r.op r i there refl) ∙ e, fits r _ refl some)

row_for-found : (o : Op) (kinds : List CellKind) → row_for o (map Some kinds) ≡ unwrap_or (row_with o kinds) (first_row o)
row_for-found o kinds = ap (λ (ks : Option (List CellKind)). unwrap_or (option_and_then (row_with o) ks) (first_row o)) (all_there-some kinds)

-- and the one that is chosen
pub row_of_kinds : (o : Op) (kinds : List CellKind) (i : ℕ) → op_at i ≡ o → IsSome (call_kind i kinds) → row_for o (map Some kinds) ≡ i
row_of_kinds o kinds i e typed = row_for-found o kinds ∙ ap (λ (r : Option ℕ). unwrap_or r (first_row o)) (row_found o kinds i e typed)

-- where the call of the chosen row has a kind, the table has a row for its arguments' kinds
pub chosen_found : (o : Op) (kinds : List CellKind) → IsSome (call_kind (row_for o (map Some kinds)) kinds)
    → option_and_then (row_with o) (all_there (map Some kinds)) ≡ Some (row_for o (map Some kinds))
chosen_found o kinds typed =
    ap (option_and_then (row_with o)) (all_there-some kinds) ∙ row_found o kinds (row_for o (map Some kinds)) (keeps_operation o (map Some kinds)) typed
