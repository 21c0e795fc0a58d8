use Rattle.plan_core.specs.PlainPlan.{plan_of}
use Rattle.rewriter.proofs.Shapes.{scan_if}
use Rattle.rewriter.proofs.computing.inputs_of.Goals as goal

pub returns-in-None-two_children : goal.returns-in-None-two_children
returns-in-None-two_children c = λ entries lengths cut.
    scan_if (plan_of c.args.part.plan.now) c.in-None.ensures.child c.in-None-two_children.ensures.children
