-- The meaning of a plan on one list of rows for each of its leaves, from the left: rows, or an overflow where some
-- operator, evaluated whole, meets one. The operators are those of LINQ to Objects; `Concat` is the left rows and then
-- the right ones.
use Rattle.std.specs.Prelude.{List, [], ◌∷◌, ◌++◌, take, drop, Result, Ok}
use Rattle.rows_core.specs.declared.overflow.Overflow.{Overflow}
use Rattle.plan_core.specs.PlainPlan.{PlainPlan, Scan, Filter, Project, Distinct, Group, Join, Concat, Order, leaf_count}
use Rattle.plan_core.specs.Columns.{Rows}
use Rattle.plan_core.specs.ExpressionValue.{◌>>=◌}
use Rattle.plan_core.specs.Filter.{filter_rows}
use Rattle.plan_core.specs.Project.{project_rows}
use Rattle.plan_core.specs.Distinct.{distinct_rows}
use Rattle.plan_core.specs.Group.{group_rows}
use Rattle.plan_core.specs.Join.{join_rows}
use Rattle.plan_core.specs.StableOrder.{order_rows}

abbrev pub first_list : List Rows → Rows
first_list [] = []
first_list (list ∷ lists) = list

abbrev pub plan_meaning : PlainPlan → List Rows → Result Rows Overflow
plan_meaning (Scan stream) lists = Ok (first_list lists)
plan_meaning (Filter child test) lists = do
  rows ← plan_meaning child lists
  filter_rows test rows
plan_meaning (Project child columns) lists = do
  rows ← plan_meaning child lists
  project_rows columns rows
plan_meaning (Distinct child) lists = do
  rows ← plan_meaning child lists
  Ok (distinct_rows rows)
plan_meaning (Group child keys aggs) lists = do
  rows ← plan_meaning child lists
  group_rows keys aggs rows
plan_meaning (Join left right on) lists = do
  lefts ← plan_meaning left (take (leaf_count left) lists)
  rights ← plan_meaning right (drop (leaf_count left) lists)
  Ok (join_rows on lefts rights)
plan_meaning (Concat left right) lists = do
  lefts ← plan_meaning left (take (leaf_count left) lists)
  rights ← plan_meaning right (drop (leaf_count left) lists)
  Ok (lefts ++ rights)
plan_meaning (Order child keys) lists = do
  rows ← plan_meaning child lists
  Ok (order_rows keys rows)
