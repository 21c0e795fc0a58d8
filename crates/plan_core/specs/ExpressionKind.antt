-- The kind of an expression over columns of these kinds, if it has one. The rules are this project's own.
use Rattle.std.specs.Prelude.{ℕ, pos, negsuc, Bool, true, false, ◌&&◌, not, ◌==◌, List, [], ◌∷◌, slice_get, Option, None, Some, if◌then◌else◌, IsSome}
use Rattle.std.specs.Option.{option_map, option_and_then}
use Rattle.std.specs.Cmp.Lexicographic.{pointwise}
use Rattle.rows_core.specs.declared.kind.Kind as column
use Rattle.rows_core.specs.declared.kind.Kind.TheVariants as column_kind
use Rattle.scalar_ops.specs.declared.cell.Cell.TheVariants as cell
use Rattle.scalar_ops.specs.declared.cell.CellKind.{CellKind}
use Rattle.scalar_ops.specs.declared.cell.CellKind.TheVariants as kind
use Rattle.scalar_ops.specs.declared.table.Op.{Op}
use Rattle.scalar_ops.specs.declared.table.Op.TheVariants as op
use Rattle.scalar_ops.specs.Cells.{kind_of_cell}
pub use Rattle.scalar_ops.specs.Cells.{same_cell_kind}
use Rattle.scalar_ops.specs.Table.{kinds_of_args}
use Rattle.scalar_ops.specs.Meaning.{row_at, op_at}
use Rattle.plan_core.specs.PlainExpr.{PlainExpr, Column, Literal, Call1, Call2, And, Or, If}

abbrev pub cell_kind_of : column.Kind → CellKind
cell_kind_of column_kind.Int = kind.Int
cell_kind_of column_kind.Text = kind.Text
cell_kind_of column_kind.Bool = kind.Bool

-- what f gives of two that are both there
abbrev pub of_both : {A B C : Type 0} → (A → B → Option C) → Option A → Option B → Option C
of_both f (Some x) (Some y) = f x y
of_both f _ _ = None

-- what a row of the table gives at arguments of these kinds, where it is there and is for them
abbrev pub call_kind : ℕ → List CellKind → Option CellKind
call_kind row kinds =
    option_and_then (λ r. if pointwise same_cell_kind kinds (kinds_of_args r.args) then Some r.result else None) (row_at row)

abbrev pub is_division : Op → Bool
is_division op.Div = true
is_division op.Mod = true
is_division _ = false

-- a number other than 0, as a literal
abbrev pub is_divisor : PlainExpr → Bool
is_divisor (Literal (cell.Int (pos n))) = not (n == 0)
is_divisor (Literal (cell.Int (negsuc n))) = true
is_divisor _ = false

abbrev pub both_truths : Option CellKind → Option CellKind → Option CellKind
both_truths (Some kind.Bool) (Some kind.Bool) = Some kind.Bool
both_truths _ _ = None

-- a test, and two parts of one kind
abbrev pub choice_kind : Option CellKind → Option CellKind → Option CellKind → Option CellKind
choice_kind (Some kind.Bool) (Some k) (Some j) = if same_cell_kind k j then Some k else None
choice_kind _ _ _ = None

abbrev pub expression_kind : List column.Kind → PlainExpr → Option CellKind
expression_kind kinds (Column i) = option_map cell_kind_of (slice_get kinds i)
expression_kind kinds (Literal c) = Some (kind_of_cell c)
expression_kind kinds (Call1 row a) = option_and_then (λ k. call_kind row (k ∷ [])) (expression_kind kinds a)
expression_kind kinds (Call2 row a b) =
    if is_division (op_at row) && not (is_divisor b) then None
    else of_both (λ k j. call_kind row (k ∷ j ∷ [])) (expression_kind kinds a) (expression_kind kinds b)
expression_kind kinds (And a b) = both_truths (expression_kind kinds a) (expression_kind kinds b)
expression_kind kinds (Or a b) = both_truths (expression_kind kinds a) (expression_kind kinds b)
expression_kind kinds (If c a b) = choice_kind (expression_kind kinds c) (expression_kind kinds a) (expression_kind kinds b)

-- the expression has a kind over columns of these kinds
abbrev pub IsTyped : List column.Kind → PlainExpr → Type 0
IsTyped kinds e = IsSome (expression_kind kinds e)
