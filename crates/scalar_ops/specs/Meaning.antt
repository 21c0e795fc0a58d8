-- What the scalar operations give: exact whole numbers and truth values, and which of them are outside of i64.
use Rattle.std.specs.Prelude.{◌≡◌, ◌≢◌, ◌↔◌, ◌^◌, ℕ, Bool, false, ◌&&◌, ◌||◌, not, List, [], ◌∷◌, length, nat_eq, nat_lt, bytes_eq, ℤ, pos, negsuc, neg_ℤ, ◌+ℤ◌, ◌-ℤ◌, ◌*ℤ◌, Result, Ok, Err, if◌then◌else◌, map, IsTrue, slice_get, Option, None, Some, unwrap_or}
use Rattle.std.specs.Bool.{beq}
use Rattle.std.specs.Option.{option_map}
use Rattle.scalar_ops.specs.declared.table.TheConstants.{OPS}
use Rattle.scalar_ops.specs.declared.cell.CellKind.{CellKind}
use Rattle.scalar_ops.specs.declared.cell.CellKind.TheVariants as kind
use Rattle.scalar_ops.specs.Cells.{kind_of_cell, AreCells}
use Rattle.scalar_ops.specs.Table.{kinds_of_args}
use Rattle.std.specs.Int.{int_min, int_max}
use Rattle.std.specs.Int.RustNames.{unsigned_abs}
use Rattle.std.specs.Ordering.{int_cmp, int_eq, nat_cmp, bool_cmp, is_lt, is_le, is_gt, is_ge}
use Rattle.std.specs.declared.cmp.Ordering.{Ordering}
use Rattle.std.specs.declared.cmp.Ordering.TheVariants.{Equal}
use Rattle.std.specs.Cmp.Lexicographic.{slice_cmp}
use Rattle.std.specs.List.{starts_with}
use Rattle.rows_core.specs.declared.overflow.Overflow.{Overflow}
use Rattle.scalar_ops.specs.declared.table.OpRow.{OpRow}
use Rattle.scalar_ops.specs.declared.cell.Cell.{Cell}
use Rattle.scalar_ops.specs.declared.cell.Cell.TheVariants as cell
use Rattle.scalar_ops.specs.declared.table.Op.{Op}
use Rattle.scalar_ops.specs.declared.table.Op.TheVariants as op
use Rattle.scalar_ops.specs.Division.{floor_div, floor_mod}

-- a whole number of any size, or a truth value
pub data Exact : Type 0 where
  Whole : ℤ → Exact
  Truth : Bool → Exact

-- numbers by value, texts by bytes, `false` before `true`
abbrev pub order_of : Cell → Cell → Ordering
order_of (cell.Int a) (cell.Int b) = int_cmp a b
order_of (cell.Text s) (cell.Text t) = slice_cmp nat_cmp s t
order_of (cell.Bool a) (cell.Bool b) = bool_cmp a b
order_of _ _ = Equal

abbrev pub is_same : Cell → Cell → Bool
is_same (cell.Int a) (cell.Int b) = int_eq a b
is_same (cell.Text s) (cell.Text t) = bytes_eq s t
is_same (cell.Bool a) (cell.Bool b) = beq a b
is_same _ _ = false

-- the exact value of an operation at cells of its kinds
abbrev pub exact_value : Op → List Cell → Exact
exact_value op.Add (cell.Int a ∷ cell.Int b ∷ []) = Whole (a +ℤ b)
exact_value op.Sub (cell.Int a ∷ cell.Int b ∷ []) = Whole (a -ℤ b)
exact_value op.Mul (cell.Int a ∷ cell.Int b ∷ []) = Whole (a *ℤ b)
exact_value op.Neg (cell.Int a ∷ []) = Whole (neg_ℤ a)
exact_value op.Abs (cell.Int a ∷ []) = Whole (pos (unsigned_abs a))
exact_value op.Div (cell.Int a ∷ cell.Int b ∷ []) = Whole (floor_div a b)
exact_value op.Mod (cell.Int a ∷ cell.Int b ∷ []) = Whole (floor_mod a b)
exact_value op.Least (cell.Int a ∷ cell.Int b ∷ []) = Whole (int_min a b)
exact_value op.Most (cell.Int a ∷ cell.Int b ∷ []) = Whole (int_max a b)
exact_value op.Least (cell.Bool a ∷ cell.Bool b ∷ []) = Truth (a && b)
exact_value op.Most (cell.Bool a ∷ cell.Bool b ∷ []) = Truth (a || b)
exact_value op.Eq (a ∷ b ∷ []) = Truth (is_same a b)
exact_value op.Ne (a ∷ b ∷ []) = Truth (not (is_same a b))
exact_value op.Lt (a ∷ b ∷ []) = Truth (is_lt (order_of a b))
exact_value op.Le (a ∷ b ∷ []) = Truth (is_le (order_of a b))
exact_value op.Gt (a ∷ b ∷ []) = Truth (is_gt (order_of a b))
exact_value op.Ge (a ∷ b ∷ []) = Truth (is_ge (order_of a b))
exact_value op.Len (cell.Text t ∷ []) = Whole (pos (length t))
exact_value op.Starts (cell.Text t ∷ cell.Text start ∷ []) = Truth (starts_with nat_eq t start)
exact_value op.Not (cell.Bool a ∷ []) = Truth (not a)
exact_value _ _ = Truth false

-- whether a whole number is in i64
abbrev pub fits_i64 : ℤ → Bool
fits_i64 (pos n) = nat_lt n (2 ^ 63)
fits_i64 (negsuc n) = nat_lt n (2 ^ 63)

abbrev pub overflow : Overflow
overflow = record {}

-- the cell of an exact value, an overflow where it is outside of i64
abbrev pub cell_of : Exact → Result Cell Overflow
cell_of (Whole z) = if fits_i64 z then Ok (cell.Int z) else Err overflow
cell_of (Truth b) = Ok (cell.Bool b)

-- the cell of an exact value
abbrev pub exact_cell : Exact → Cell
exact_cell (Whole z) = cell.Int z
exact_cell (Truth b) = cell.Bool b

-- the cell of a checked number
abbrev pub checked_cell : Option ℤ → Result Cell Overflow
checked_cell None = Err overflow
checked_cell (Some z) = Ok (cell.Int z)

-- the row with this number, counted from 0
abbrev pub row_at : ℕ → Option OpRow
row_at row = slice_get OPS.rows row

abbrev pub op_at : ℕ → Op
op_at row = unwrap_or (option_map (λ r. r.op) (row_at row)) op.Not

abbrev pub kinds_at : ℕ → List CellKind
kinds_at row = unwrap_or (option_map (λ r. kinds_of_args r.args) (row_at row)) []

-- the kind of the row's values
abbrev pub result_at : ℕ → CellKind
result_at row = unwrap_or (option_map (λ r. r.result) (row_at row)) kind.Bool

-- whether the row says that it may overflow
abbrev pub overflows_at : ℕ → Bool
overflows_at row = unwrap_or (option_map (λ r. r.overflows) (row_at row)) false

-- What a row of the table gives: the exact value, or an overflow where that is outside of i64. A row that doesn't say that
-- it may overflow never does; at cells that a program holds its exact value is in i64.
abbrev pub meaning : ℕ → List Cell → Result Cell Overflow
meaning row cells =
    if overflows_at row then cell_of (exact_value (op_at row) cells) else Ok (exact_cell (exact_value (op_at row) cells))

-- a divisor isn't 0
abbrev pub Divides : Op → List Cell → Type 0
Divides op.Div (a ∷ cell.Int b ∷ []) = b ≢ pos 0
Divides op.Mod (a ∷ cell.Int b ∷ []) = b ≢ pos 0
Divides _ _ = Unit {0}

-- there are cells of the row's kinds, with a divisor other than 0, at which the exact value is outside of i64
pub record MayOverflow (row : OpRow) : Type 0 where
  pub cells : List Cell
  pub each : AreCells cells
  pub kinds : map kind_of_cell cells ≡ kinds_of_args row.args
  pub divides : Divides row.op cells
  pub outside : cell_of (exact_value row.op cells) ≡ Err overflow

-- a row says that it may overflow exactly where it may
abbrev pub SaysSo : OpRow → Type 0
SaysSo row = IsTrue row.overflows ↔ MayOverflow row
