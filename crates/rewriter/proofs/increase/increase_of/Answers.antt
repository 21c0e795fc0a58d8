use Rattle.plan_core.specs.PlainPlan.{plan_of}
use Rattle.rewriter.proofs.Shapes.{scan_by}
use Rattle.rewriter.proofs.increase.increase_of.Goals as goal

pub increase_of_scan-requires-clause-scan : goal.increase_of_scan-requires-clause-scan
increase_of_scan-requires-clause-scan c = scan_by (plan_of c.args.stretch.plan.now) c.in-None.ensures.child c.in-None-concat_parts.ensures.parts c.in-None-join_sides.ensures.sides
