-- The steps that the evaluator goes in.
use Rattle.std.specs.Prelude.{Bool, List, ◌++◌, map, Result, Ok}
use Rattle.rows_core.specs.declared.overflow.Overflow.{Overflow}
use Rattle.plan_core.specs.declared.agg.Agg.{Agg}
use Rattle.plan_core.specs.Aggregate.{aggregate_value}
use Rattle.plan_core.specs.Columns.{Row, Rows}
use Rattle.plan_core.specs.ExpressionValue.{◌>>=◌, all_of, expression_value, is_true}
use Rattle.plan_core.specs.PlainExpr.{PlainExpr}

-- the value of a test
abbrev pub test_value : PlainExpr → Row → Result Bool Overflow
test_value test row = do
  cell ← expression_value test row
  Ok (is_true cell)

-- what a group gives behind its key
abbrev pub aggregate_values : List Agg → Rows → Result Row Overflow
aggregate_values aggs rows = all_of (map (λ agg. aggregate_value agg rows) aggs)

-- what stands so far, and then the others
abbrev pub onto : {A : Type 0} → List A → Result (List A) Overflow → Result (List A) Overflow
onto sofar others = do
  rest ← others
  Ok (sofar ++ rest)
