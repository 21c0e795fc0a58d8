-- The places of a plan that count, and the trees of a rewriting that stand there.
use Rattle.std.specs.Prelude.{◌≡◌, ◌⊎◌, IsTrue, List, Contains, zip}
use Rattle.plan_core.specs.PlainPlan.{PlainPlan}
use Rattle.estimator.specs.Cuts.{Cuts}
use Rattle.rewrite_core.specs.PlainRewriting.{PlainRewriting}
use Rattle.growth_laws.specs.MadePlaces.{Place, places, standing_of, counts_below, counts_at_root}
use Rattle.growth_laws.specs.Parts.{cuts_at}

-- the root counts unless it is a scan; each other place if it is a distinct, a group, a join or an order
abbrev pub Counts : Place → Place → Type 0
Counts root at = ((at ≡ root) × IsTrue (counts_at_root root.plan)) ⊎ IsTrue (counts_below at.plan)

-- a computed or grown tree of the rewriting stands at this place of the plan, at the place's own cut
pub record HasOwnTree (plan : PlainPlan) (cuts : Cuts) (r : PlainRewriting) (at : Place) : Type 0 where
  pub trees : List PlainRewriting
  pub there : Contains (zip (places plan cuts) (standing_of r)) (at, trees)
  pub tree : PlainRewriting
  pub stands : Contains trees tree
  pub own : cuts_at tree ≡ at.cuts
