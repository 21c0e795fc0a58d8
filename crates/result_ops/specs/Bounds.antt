-- The limit of a machine time, and the bounds within which a result is worked on further. Both are this project's own.
use Rattle.std.specs.Prelude.{ℕ, List, ◌≤◌, Result, Ok, Err}
use Rattle.rows_core.specs.declared.overflow.Overflow.{Overflow}
use Rattle.row_blob.specs.declared.kept.Kept.{Kept}
use Rattle.row_blob.specs.declared.kept.Kept.TheVariants as kept
use Rattle.plan_core.specs.declared.agg.Agg.{Agg}
use Rattle.plan_core.specs.PlainPlan.{PlainPlan, Group, Join}
use Rattle.plan_laws.specs.GroupBounds.{AreGroups, HaveAverages}
use Rattle.growth_laws.specs.Growth.{Made}

-- the greatest machine time; it is 1 and the rows taken in
abbrev pub limit : ℕ
limit = 4294967295

-- groups as they are merged and finished
abbrev pub AreBoundedGroups : List Agg → Kept → Type 0
AreBoundedGroups aggs (kept.Groups groups) = AreGroups aggs groups × HaveAverages groups
AreBoundedGroups aggs _ = ⊥

-- groups so, and positions of a join as they are kept
abbrev pub IsBounded : PlainPlan → Kept → Type 0
IsBounded (Group child keys aggs) (kept.Groups groups) = AreGroups aggs groups × HaveAverages groups
IsBounded (Join left right on) (kept.Tagged lefts rows) = lefts ≤ limit
IsBounded _ _ = Unit {0}

-- what is made lies outside of the bounds
abbrev pub PassesBounds : PlainPlan → Result Made Overflow → Type 0
PassesBounds plan (Ok made) = IsBounded plan made.kept → ⊥
PassesBounds plan (Err e) = ⊥
