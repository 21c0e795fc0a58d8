-- Operators that are gathered from one stream's extents, as they stand over a computed scan.
use Rattle.std.specs.Prelude.{Bool, true, false}
use Rattle.plan_core.specs.PlainPlan.{PlainPlan, Filter, Project, Distinct, Group}

-- an operator that passes each row on by itself, or none
abbrev pub is_row_wise : PlainPlan → Bool
is_row_wise (Filter child test) = true
is_row_wise (Project child columns) = true
is_row_wise _ = false

-- such a one, a grouping or a distinct
abbrev pub gathers : PlainPlan → Bool
gathers (Filter child test) = true
gathers (Project child columns) = true
gathers (Distinct child) = true
gathers (Group child keys aggs) = true
gathers _ = false
