-- Groups that are held can be merged.
use Rattle.std.proofs.Common.{◌≡◌, sym, subst, ℕ, ◌<◌, ◌≤◌, [], length, arith}
use Rattle.plan_core.specs.PlainPlan.{PlainPlan, Scan, Filter, Project, Distinct, Group, Join, Concat, Order}
use Rattle.plan_laws.specs.GroupBounds.{AreGroups}
use Rattle.plan_laws.specs.GrowthOfGroups.{groups_of}
use Rattle.plan_laws.proofs.GroupBounds.{are_groups}
use Rattle.result_ops.specs.Bounds.{limit}
use Rattle.gathering.specs.declared.held.Held.{Held}
use Rattle.gathering.specs.declared.held.Held.TheVariants as held
use Rattle.gathering.specs.Holding.{AreMergeable, AreSummed, IsHeld}

pub held_mergeable : (plan : PlainPlan) (held : Held) (taken_in : ℕ) → IsHeld plan taken_in held → taken_in < limit → AreMergeable plan held
held_mergeable (Group child keys aggs) (held.Groups groups) taken_in (rows, same, (numbers, within)) few =
    let at_most : length rows ≤ 4294967295 = omega arith in
    let groups_are : groups ≡ groups_of keys aggs rows = cc in
    subst (AreGroups aggs) (sym groups_are) (are_groups keys aggs rows numbers at_most)
held_mergeable (Group child keys aggs) (held.Rows rows) taken_in holds few = tt
held_mergeable (Group child keys aggs) (held.Distinct seen) taken_in holds few = tt
held_mergeable (Scan stream) held taken_in holds few = tt
held_mergeable (Filter child test) held taken_in holds few = tt
held_mergeable (Project child columns) held taken_in holds few = tt
held_mergeable (Distinct child) held taken_in holds few = tt
held_mergeable (Join left right on) held taken_in holds few = tt
held_mergeable (Concat left right) held taken_in holds few = tt
held_mergeable (Order child keys) held taken_in holds few = tt

pub summed_none : (plan : PlainPlan) → AreSummed plan [] 0
summed_none (Group child keys aggs) = (tt, omega arith)
summed_none (Scan stream) = tt
summed_none (Filter child test) = tt
summed_none (Project child columns) = tt
summed_none (Distinct child) = tt
summed_none (Join left right on) = tt
summed_none (Concat left right) = tt
summed_none (Order child keys) = tt
