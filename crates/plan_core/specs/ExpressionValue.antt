-- The value of an expression at a row: a cell, or an overflow. The arithmetic is this project's own; `and`, `or` and
-- `if` are those of Rust's `&&`, `||` and `if`: the first part, and then only the part that is needed.
use Rattle.std.specs.Prelude.{Bool, true, false, List, [], ◌∷◌, Result, Ok, Err, if◌then◌else◌}
use Rattle.rows_core.specs.declared.value.Value.{Value}
use Rattle.rows_core.specs.declared.value.Value.TheVariants as value
use Rattle.rows_core.specs.declared.overflow.Overflow.{Overflow}
use Rattle.scalar_ops.specs.declared.cell.Cell.{Cell}
use Rattle.scalar_ops.specs.declared.cell.Cell.TheVariants as cell
use Rattle.scalar_ops.specs.Meaning.{meaning}
use Rattle.plan_core.specs.PlainExpr.{PlainExpr, Column, Literal, Call1, Call2, And, Or, If}
use Rattle.plan_core.specs.Columns.{Row, column_of}

-- an overflow of the first is an overflow of both
infixl 10 ◌>>=◌
abbrev pub ◌>>=◌ : {A B : Type 0} → Result A Overflow → (A → Result B Overflow) → Result B Overflow
(Ok x) >>= f = f x
(Err e) >>= f = Err e

-- all values, or an overflow where one of them is an overflow
abbrev pub all_of : {A : Type 0} → List (Result A Overflow) → Result (List A) Overflow
all_of [] = Ok []
all_of (x ∷ xs) = do
  first ← x
  others ← all_of xs
  Ok (first ∷ others)

abbrev pub cell_of_value : Value → Cell
cell_of_value (value.Int n) = cell.Int n
cell_of_value (value.Text t) = cell.Text t
cell_of_value (value.Bool b) = cell.Bool b

abbrev pub value_of_cell : Cell → Value
value_of_cell (cell.Int n) = value.Int n
value_of_cell (cell.Text t) = value.Text t
value_of_cell (cell.Bool b) = value.Bool b

abbrev pub is_true : Cell → Bool
is_true (cell.Bool b) = b
is_true _ = false

abbrev pub expression_value : PlainExpr → Row → Result Cell Overflow
expression_value (Column i) row = Ok (cell_of_value (column_of row i))
expression_value (Literal c) row = Ok c
expression_value (Call1 op a) row = do
  x ← expression_value a row
  meaning op (x ∷ [])
expression_value (Call2 op a b) row = do
  x ← expression_value a row
  y ← expression_value b row
  meaning op (x ∷ y ∷ [])
expression_value (And a b) row = do
  x ← expression_value a row
  if is_true x then expression_value b row else Ok (cell.Bool false)
expression_value (Or a b) row = do
  x ← expression_value a row
  if is_true x then Ok (cell.Bool true) else expression_value b row
expression_value (If c a b) row = do
  x ← expression_value c row
  if is_true x then expression_value a row else expression_value b row
