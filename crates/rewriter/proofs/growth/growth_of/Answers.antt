use Rattle.std.proofs.Common.{refl}
use Rattle.plan_core.specs.PlainPlan.{plan_of}
use Rattle.rewriter.proofs.Growths.{tail_of_child}
use Rattle.rewriter.proofs.LeastParts as law
use Rattle.rewriter.proofs.Shapes.{scan_by}
use Rattle.rewriter.proofs.growth.growth_of.Goals as goal

pub returns-in-Some : goal.returns-in-Some
returns-in-Some c = λ entries lengths sound cut here.
    tail_of_child entries lengths sound (plan_of c.args.part.plan.now) c.args.part.cuts.now c.args.hit.now here cut _ c.in-Some.ensures.child c.in-Some.ensures.lower c.items.ensures refl

pub returns-in-None-join_sides : goal.returns-in-None-join_sides
returns-in-None-join_sides c = λ entries lengths sound cut here.
    law.grown_no_scan entries lengths (plan_of c.args.part.plan.now) c.args.part.cuts.now (scan_by (plan_of c.args.part.plan.now) c.in-None.ensures.child c.in-None-concat_parts.ensures.parts c.in-None-join_sides.ensures.sides)
