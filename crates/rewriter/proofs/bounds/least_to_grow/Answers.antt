use Rattle.plan_core.specs.PlainPlan.{plan_of}
use Rattle.rewriter.proofs.LeastCosts.{none_to_grow}
use Rattle.rewriter.proofs.LeastParts as law
use Rattle.rewriter.proofs.bounds.least_to_grow.Goals as goal

pub returns-in-None : goal.returns-in-None
returns-in-None g c =
    none_to_grow (g.L.Lookup.entries c.args.lookup.now) (g.Z.Sizes.lengths c.args.sizes.now) (plan_of c.args.part.plan.now) c.args.part.cuts.now _
    (law.grown_none (g.L.Lookup.entries c.args.lookup.now) (g.Z.Sizes.lengths c.args.sizes.now) (plan_of c.args.part.plan.now) c.args.part.cuts.now (rw c.in-None.is at c.in_ok-earlier.ensures))
