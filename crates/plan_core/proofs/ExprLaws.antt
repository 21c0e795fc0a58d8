-- What a typed expression says of its parts.
use Rattle.std.proofs.Common.{◌≡◌, ◌≢◌, refl, ap, subst, ◌∙◌, ℕ, zero, suc, ℤ, pos, negsuc, Bool, true, false, ◌&&◌, not, cond, ◌<◌, length, List, [], ◌∷◌, map, slice_get, Option, None, Some, Ok, IsSome}
use Rattle.std.proofs.lemmas.Bool.{false≢true, not-false}
use Rattle.std.proofs.lemmas.Option.{slice_get_within}
use Rattle.std.specs.Option.{option_and_then}
use Rattle.std.specs.Cmp.Lexicographic.{pointwise}
use Rattle.rows_core.specs.declared.kind.Kind as column
use Rattle.rows_core.specs.declared.value.Value.{Value}
use Rattle.rows_core.specs.Value.{kind_of}
use Rattle.scalar_ops.specs.declared.cell.Cell.{Cell}
use Rattle.scalar_ops.specs.declared.cell.Cell.TheVariants as cell
use Rattle.scalar_ops.specs.declared.cell.CellKind.{CellKind}
use Rattle.scalar_ops.specs.declared.table.Op.{Op}
use Rattle.scalar_ops.specs.declared.table.Op.TheVariants as op
use Rattle.scalar_ops.specs.declared.table.OpRow.{OpRow}
use Rattle.scalar_ops.specs.declared.table.TheConstants.{OPS}
use Rattle.scalar_ops.specs.Cells.{kind_of_cell, same_cell_kind}
use Rattle.scalar_ops.specs.Table.{kinds_of_args}
use Rattle.scalar_ops.specs.Meaning.{row_at, op_at, Divides}
use Rattle.plan_core.specs.PlainExpr.{PlainExpr, Column, Literal, Call1, Call2, And, Or, If}
use Rattle.plan_core.specs.Columns.{Row}
use Rattle.plan_core.specs.ExpressionValue.{expression_value, cell_of_value}
use Rattle.plan_core.proofs.ValueKinds.{kind_of_cell-cell_of_value, slice_get-map}
use Rattle.plan_core.specs.ExpressionKind.{IsTyped, expression_kind, of_both, call_kind, is_division, is_divisor}

-- ---- columns

pub column_kind : (row : Row) (i : ℕ) (v : Value) → slice_get row i ≡ Some v → expression_kind (map kind_of row) (Column i) ≡ Some (kind_of_cell (cell_of_value v))
column_kind row i v there = rw (slice_get-map kind_of row i, there, kind_of_cell-cell_of_value v) refl

-- ---- operations

-- the row of a call that has a kind is one of the table
pub row_there : (row : ℕ) (kinds : List CellKind) → IsSome (call_kind row kinds) → row < length OPS.rows
row_there row kinds typed = go (row_at row) refl typed
  where
    go : (found : Option OpRow) → row_at row ≡ found
        → IsSome (option_and_then (λ r. cond (pointwise same_cell_kind kinds (kinds_of_args r.args)) (Some r.result) None) found)
        → row < length OPS.rows
    go None e h = absurd (false≢true h)
    go (Some r) e h = slice_get_within OPS.rows row r e

-- ---- operations of two arguments

-- it divides by no 0, and has the kind that the table gives
pub record IsCallOfTwo (kinds : List column.Kind) (row : ℕ) (a b : PlainExpr) : Type 0 where
  pub divisor : (is_division (op_at row) && not (is_divisor b)) ≡ false
  pub kind : expression_kind kinds (Call2 row a b) ≡ of_both (λ k j. call_kind row (k ∷ j ∷ [])) (expression_kind kinds a) (expression_kind kinds b)
  pub typed : IsSome (of_both (λ k j. call_kind row (k ∷ j ∷ [])) (expression_kind kinds a) (expression_kind kinds b))

pub typed_call : (kinds : List column.Kind) (row : ℕ) (a b : PlainExpr) → IsTyped kinds (Call2 row a b) → IsCallOfTwo kinds row a b
typed_call kinds row a b typed = go (is_division (op_at row) && not (is_divisor b)) refl typed
  where
    given : Option CellKind
    given = of_both (λ k j. call_kind row (k ∷ j ∷ [])) (expression_kind kinds a) (expression_kind kinds b)

    go : (refused : Bool) → (is_division (op_at row) && not (is_divisor b)) ≡ refused → IsSome (cond refused None given) → IsCallOfTwo kinds row a b
    go true e h = absurd (false≢true h)
    go false e h = record { divisor = e; kind = ap (λ t. cond t None given) e; typed = h }

divisor_value : (z : ℤ) → is_divisor (Literal (cell.Int z)) ≡ true → z ≢ pos 0
divisor_value (pos zero) e = absurd cc
divisor_value (pos (suc n)) e = λ p. cc
divisor_value (negsuc n) e = λ p. cc

literal_divisor : (b : PlainExpr) (row : Row) (x y : Cell) → is_divisor b ≡ true → expression_value b row ≡ Ok y → Divides op.Div (x ∷ y ∷ [])
literal_divisor (Literal (cell.Int z)) row x y e is =
    let same : cell.Int z ≡ y = cc in
    subst (λ (c : Cell). Divides op.Div (x ∷ c ∷ [])) same (divisor_value z e)
literal_divisor (Literal (cell.Text t)) row x y e is = absurd cc
literal_divisor (Literal (cell.Bool t)) row x y e is = absurd cc
literal_divisor (Column i) row x y e is = absurd cc
literal_divisor (Call1 r a) row x y e is = absurd cc
literal_divisor (Call2 r a b) row x y e is = absurd cc
literal_divisor (And a b) row x y e is = absurd cc
literal_divisor (Or a b) row x y e is = absurd cc
literal_divisor (If c a b) row x y e is = absurd cc

pub divides : (o : Op) (b : PlainExpr) (row : Row) (x y : Cell) → (is_division o && not (is_divisor b)) ≡ false → expression_value b row ≡ Ok y → Divides o (x ∷ y ∷ [])
divides op.Div b row x y e is = literal_divisor b row x y (not-false _ e) is
divides op.Mod b row x y e is = literal_divisor b row x y (not-false _ e) is
divides _ b row x y e is = tt

-- ---- the same, at the expression and the values that a call was given

pub call_of_two_kinds : (kinds : List column.Kind) (row : ℕ) (a b : PlainExpr) (x y : Cell) → IsTyped kinds (Call2 row a b)
    → expression_kind kinds a ≡ Some (kind_of_cell x) → expression_kind kinds b ≡ Some (kind_of_cell y)
    → expression_kind kinds (Call2 row a b) ≡ call_kind row (kind_of_cell x ∷ kind_of_cell y ∷ [])
call_of_two_kinds kinds row a b x y typed left right =
    (typed_call kinds row a b typed).kind ∙ rw (left, right) refl
