use Rattle.std.proofs.Common.{subst, sym}
use Rattle.plan_core.specs.PlainPlan.{plan_of}
use Rattle.rewrite_core.proofs.Looking.{never}
use Rattle.rewriter.specs.declared.parts.Growth.TheVariants as growth
use Rattle.rewriter.specs.Growing.{Grows}
use Rattle.rewriter.specs.Stretches.{before}
use Rattle.rewriter.proofs.Growths.{left_grew, right_grew, both_grew}
use Rattle.rewriter.proofs.Shapes.{holds}
use Rattle.rewriter.proofs.growth.growth_of_inputs.Goals as goal

pub returns-then-are_same_cuts : goal.returns-then-are_same_cuts
returns-then-are_same_cuts c = λ entries lengths sound cut here.
    subst (λ p. Grows entries lengths (plan_of c.args.part.plan.now) c.args.part.cuts.now c.args.hit.now (growth.Left c.args.left p)) (sym c.after.ensures)
    (left_grew entries lengths sound (plan_of c.args.part.plan.now) c.args.part.cuts.now c.args.hit.now here cut c.args.left c.args.right c.requires.inputs (c.if-are_same_cuts.ensures.0 holds))

pub returns-then-are_same_cuts-2 : goal.returns-then-are_same_cuts-2
returns-then-are_same_cuts-2 c = λ entries lengths sound cut here.
    subst (λ p. Grows entries lengths (plan_of c.args.part.plan.now) c.args.part.cuts.now c.args.hit.now (growth.Right p c.args.right)) (sym c.after-then-are_same_cuts-2.ensures)
    (right_grew entries lengths sound (plan_of c.args.part.plan.now) c.args.part.cuts.now c.args.hit.now here cut c.args.left c.args.right c.requires.inputs (c.if-are_same_cuts-2.ensures.0 holds))

pub returns : goal.returns
returns c = λ entries lengths sound cut here.
    subst (λ p. Grows entries lengths (plan_of c.args.part.plan.now) c.args.part.cuts.now c.args.hit.now (growth.Both (record { old_left = p; right_delta = c.args.right; left_delta = c.args.left; right = c.after-2.result }))) (sym c.before-2.ensures)
    (subst (λ p. Grows entries lengths (plan_of c.args.part.plan.now) c.args.part.cuts.now c.args.hit.now (growth.Both (record { old_left = before c.args.left; right_delta = c.args.right; left_delta = c.args.left; right = p }))) (sym c.after-2.ensures)
    (both_grew entries lengths sound (plan_of c.args.part.plan.now) c.args.part.cuts.now c.args.hit.now here cut c.args.left c.args.right c.requires.inputs (λ e. never (c.if-are_same_cuts-2.ensures.1 e)) (λ e. never (c.if-are_same_cuts.ensures.1 e))))
