-- To compute each node is a rewriting.
use Rattle.std.proofs.Common.{◌≡◌, ℕ, ◌+◌, ◌-◌, List, length, drop, refl, arith, length-drop, length-append}
use Rattle.plan_core.specs.PlainPlan.{PlainPlan, Scan, Filter, Project, Distinct, Group, Join, Concat, Order}
use Rattle.estimator.specs.Cuts.{Cuts}
use Rattle.rewrite_core.specs.Computed.{computed}
use Rattle.rewrite_core.specs.IsRewriting.{IsRewriting, Naming, lefts, rights}

pub computed_is : (names : Naming) (plan : PlainPlan) (cuts : Cuts) → IsRewriting names plan cuts (computed plan cuts)
computed_is names (Scan stream) c = (refl, refl, tt)
computed_is names (Filter child test) c = (refl, refl, computed_is names child c)
computed_is names (Project child columns) c = (refl, refl, computed_is names child c)
computed_is names (Distinct child) c = (refl, refl, computed_is names child c)
computed_is names (Group child keys aggs) c = (refl, refl, computed_is names child c)
computed_is names (Join left right on) c = (refl, refl, (computed_is names left (lefts left c), computed_is names right (rights left c)))
computed_is names (Concat left right) c = (refl, refl, (computed_is names left (lefts left c), computed_is names right (rights left c)))
computed_is names (Order child keys) c = (refl, refl, computed_is names child c)

-- of a cut of two inputs, what stands behind that of the left one is that of the right one
pub length_behind : (cuts : Cuts) (n m : ℕ) → length cuts ≡ n + m → length (drop n cuts) ≡ m
length_behind cuts n m both = omega (arith, both, length-drop n cuts)

pub ruleset of_two_inputs = (length_behind, length-append)
