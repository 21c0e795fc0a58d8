-- The rows that a rewriting without a grown part gives: those that the extents and the results that it reads have, and each
-- operator's of the rows of its inputs.
use Rattle.std.specs.Prelude.{[], ◌++◌, Result, Ok}
use Rattle.rows_core.specs.declared.overflow.Overflow.{Overflow}
use Rattle.plan_core.specs.Columns.{Rows}
use Rattle.plan_core.specs.Distinct.{distinct_rows}
use Rattle.plan_core.specs.ExpressionValue.{◌>>=◌}
use Rattle.plan_core.specs.Filter.{filter_rows}
use Rattle.plan_core.specs.Group.{group_rows}
use Rattle.plan_core.specs.Join.{join_rows}
use Rattle.plan_core.specs.PlainPlan.{PlainPlan, Filter, Project, Distinct, Group, Join, Concat, Order}
use Rattle.plan_core.specs.PlanMeaning.{first_list}
use Rattle.plan_core.specs.Project.{project_rows}
use Rattle.plan_core.specs.StableOrder.{order_rows}
use Rattle.plan_laws.specs.KeptForm.{rows_of_kept}
use Rattle.estimator.specs.Cuts.{Cuts}
use Rattle.rewrite_core.specs.PlainRewriting.{PlainRewriting, Node, PlainWay, Scan, One, Two, Read}
use Rattle.growth_laws.specs.KeptResults.{KeptResults}
use Rattle.growth_laws.specs.Lists.{Extents, plan_lists}

-- the operator of one input on these rows
abbrev pub rows_of_one : PlainPlan → Rows → Result Rows Overflow
rows_of_one (Filter child test) rows = filter_rows test rows
rows_of_one (Project child columns) rows = project_rows columns rows
rows_of_one (Distinct child) rows = Ok (distinct_rows rows)
rows_of_one (Group child keys aggs) rows = group_rows keys aggs rows
rows_of_one (Order child keys) rows = Ok (order_rows keys rows)
rows_of_one _ rows = Ok []

-- that of two
abbrev pub rows_of_two : PlainPlan → Rows → Rows → Rows
rows_of_two (Join left right on) lefts rights = join_rows on lefts rights
rows_of_two (Concat left right) lefts rights = lefts ++ rights
rows_of_two _ lefts rights = []

abbrev mutual
  -- no part is grown
  pub IsUngrown : PlainRewriting → Type 0
  IsUngrown (Node plan cuts way) = IsUngrownWay way

  pub IsUngrownWay : PlainWay → Type 0
  IsUngrownWay Scan = Unit {0}
  IsUngrownWay (One r) = IsUngrown r
  IsUngrownWay (Two l r) = IsUngrown l × IsUngrown r
  IsUngrownWay (Read hit) = Unit {0}
  IsUngrownWay _ = ⊥

abbrev mutual
  pub rows_given_by : Extents → KeptResults → PlainRewriting → Result Rows Overflow
  rows_given_by extents results (Node plan cuts way) = rows_given_in extents results plan cuts way

  pub rows_given_in : Extents → KeptResults → PlainPlan → Cuts → PlainWay → Result Rows Overflow
  rows_given_in extents results plan cuts Scan = Ok (first_list (plan_lists extents plan cuts))
  rows_given_in extents results plan cuts (One r) = do
    rows ← rows_given_by extents results r
    rows_of_one plan rows
  rows_given_in extents results plan cuts (Two l r) = do
    lefts ← rows_given_by extents results l
    rights ← rows_given_by extents results r
    Ok (rows_of_two plan lefts rights)
  rows_given_in extents results plan cuts (Read hit) = rows_of_kept (results hit.id).form
  rows_given_in extents results plan cuts _ = Ok []
