-- What is said of all typed expressions.
use Rattle.std.specs.Prelude.{◌≡◌, map, Some, Ok}
use Rattle.rows_core.specs.Value.{kind_of}
use Rattle.scalar_ops.specs.declared.cell.Cell.{Cell}
use Rattle.scalar_ops.specs.declared.cell.CellKind.{CellKind}
use Rattle.scalar_ops.specs.Cells.{kind_of_cell}
use Rattle.plan_core.specs.PlainExpr.{PlainExpr}
use Rattle.plan_core.specs.Columns.{Row}
use Rattle.plan_core.specs.ExpressionKind.{expression_kind}
use Rattle.plan_core.specs.ExpressionValue.{expression_value}

-- a value that is no overflow has the kind that the expression has over the row's kinds
abbrev pub ValuesHaveTheirKinds : Type 0
ValuesHaveTheirKinds =
    (e : PlainExpr) (row : Row) (kind : CellKind) (cell : Cell)
    → expression_kind (map kind_of row) e ≡ Some kind → expression_value e row ≡ Ok cell → kind_of_cell cell ≡ kind
