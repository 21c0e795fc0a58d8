-- The rows of two truth values, which stand behind all others.
use Rattle.std.proofs.Common.{◌≡◌, refl, subst, ℕ, zero, suc, ◌+◌, ◌-◌, ◌<◌, ◌≤◌, Bool, false, List, [], ◌∷◌, map, length, arith}
use Rattle.scalar_ops.specs.declared.cell.Cell.{Cell}
use Rattle.scalar_ops.specs.declared.cell.Cell.TheVariants as cell
use Rattle.scalar_ops.specs.declared.cell.CellKind.TheVariants as kind
use Rattle.scalar_ops.specs.Cells.{kind_of_cell}
use Rattle.scalar_ops.specs.Meaning.{kinds_at, result_at, overflows_at}

-- the row takes two truth values, gives one, and never overflows
pub record IsTruthRow (row : ℕ) : Type 0 where
  pub kinds : kinds_at row ≡ kind.Bool ∷ kind.Bool ∷ []
  pub result : result_at row ≡ kind.Bool
  pub silent : overflows_at row ≡ false

behind : (i : ℕ) → i < 8 → IsTruthRow (24 + i)
behind zero p = record { kinds = refl; result = refl; silent = refl }
behind (suc zero) p = record { kinds = refl; result = refl; silent = refl }
behind (suc (suc zero)) p = record { kinds = refl; result = refl; silent = refl }
behind (suc (suc (suc zero))) p = record { kinds = refl; result = refl; silent = refl }
behind (suc (suc (suc (suc zero)))) p = record { kinds = refl; result = refl; silent = refl }
behind (suc (suc (suc (suc (suc zero))))) p = record { kinds = refl; result = refl; silent = refl }
behind (suc (suc (suc (suc (suc (suc zero)))))) p = record { kinds = refl; result = refl; silent = refl }
behind (suc (suc (suc (suc (suc (suc (suc zero))))))) p = record { kinds = refl; result = refl; silent = refl }
behind (suc (suc (suc (suc (suc (suc (suc (suc i)))))))) p = absurd (omega arith)

pub truth_row : (row : ℕ) → 24 ≤ row → row < 32 → IsTruthRow row
truth_row row low high =
    let small : row - 24 < 8 = omega arith in
    let same : 24 + (row - 24) ≡ row = omega arith in
    subst IsTruthRow same (behind (row - 24) small)

-- the cells are two truth values
pub record AreTwoTruths (cells : List Cell) : Type 0 where
  pub first : Bool
  pub second : Bool
  pub are : cells ≡ cell.Bool first ∷ cell.Bool second ∷ []

pub two_truths : (cells : List Cell) → map kind_of_cell cells ≡ kind.Bool ∷ kind.Bool ∷ [] → AreTwoTruths cells
two_truths [] e = absurd cc
two_truths (cell.Int a ∷ cells) e = absurd cc
two_truths (cell.Text a ∷ cells) e = absurd cc
two_truths (cell.Bool a ∷ []) e = absurd cc
two_truths (cell.Bool a ∷ cell.Int b ∷ cells) e = absurd cc
two_truths (cell.Bool a ∷ cell.Text b ∷ cells) e = absurd cc
two_truths (cell.Bool a ∷ cell.Bool b ∷ []) e = record { first = a; second = b; are = refl }
two_truths (cell.Bool a ∷ cell.Bool b ∷ c ∷ cells) e = absurd cc
