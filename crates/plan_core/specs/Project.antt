-- For each row the row of these columns' values, in the order of the rows: `Select` of LINQ to Objects. Overflow where
-- a value is an overflow, whether it is used above or not.
use Rattle.std.specs.Prelude.{List, map, Result, Ok}
use Rattle.rows_core.specs.declared.overflow.Overflow.{Overflow}
use Rattle.rows_core.specs.declared.value.Value.{Value}
use Rattle.plan_core.specs.PlainExpr.{PlainExpr}
use Rattle.plan_core.specs.Columns.{Row, Rows}
use Rattle.plan_core.specs.ExpressionValue.{◌>>=◌, all_of, expression_value, value_of_cell}

abbrev pub column_value : PlainExpr → Row → Result Value Overflow
column_value column row = do
  cell ← expression_value column row
  Ok (value_of_cell cell)

abbrev pub project_row : List PlainExpr → Row → Result Row Overflow
project_row columns row = all_of (map (λ column. column_value column row) columns)

abbrev pub project_rows : List PlainExpr → Rows → Result Rows Overflow
project_rows columns rows = all_of (map (project_row columns) rows)
