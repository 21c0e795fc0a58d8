use Rattle.plan_core.specs.PlainPlan.{plan_of}
use Rattle.rewriter.proofs.Growths.{two_inputs}
use Rattle.rewriter.proofs.computing.both_inputs.Goals as goal

pub returns : goal.returns
returns c = λ entries lengths cut.
    two_inputs entries lengths (plan_of c.args.part.plan.now) c.args.part.cuts.now _ _ c.requires.two c.requires.left c.requires.right c.sides.ensures.lefts c.sides.ensures.rights cut
