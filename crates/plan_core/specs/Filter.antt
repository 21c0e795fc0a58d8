-- The rows at which a test is true, in their order: `Where` of LINQ to Objects. Overflow where the test is an overflow
-- at some row.
use Rattle.std.specs.Prelude.{Bool, false, Result, Ok, Err, if◌then◌else◌, is_err}
use Rattle.std.specs.List.{list_any, filter}
use Rattle.rows_core.specs.declared.overflow.Overflow.{Overflow}
use Rattle.scalar_ops.specs.declared.cell.Cell.{Cell}
use Rattle.scalar_ops.specs.Meaning.{overflow}
use Rattle.plan_core.specs.PlainExpr.{PlainExpr}
use Rattle.plan_core.specs.Columns.{Row, Rows}
use Rattle.plan_core.specs.ExpressionValue.{expression_value, is_true}

abbrev pub overflows : PlainExpr → Row → Bool
overflows test row = is_err (expression_value test row)

abbrev pub is_true_value : Result Cell Overflow → Bool
is_true_value (Ok cell) = is_true cell
is_true_value (Err e) = false

abbrev pub passes : PlainExpr → Row → Bool
passes test row = is_true_value (expression_value test row)

abbrev pub filter_rows : PlainExpr → Rows → Result Rows Overflow
filter_rows test rows = if list_any (overflows test) rows then Err overflow else Ok (filter (passes test) rows)
