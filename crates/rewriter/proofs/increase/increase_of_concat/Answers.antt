use Rattle.std.proofs.Common.{sym, ◌∙◌}
use Rattle.plan_core.specs.PlainPlan.{plan_of}
use Rattle.rewrite_core.proofs.Looking.{never}
use Rattle.rewriter.proofs.Growths.{child_of_concat}
use Rattle.rewriter.proofs.LeastParts as law
use Rattle.rewriter.proofs.Shapes.{holds}
use Rattle.rewriter.proofs.increase.increase_of_concat.Goals as goal

pub returns-then-are_same_cuts : goal.returns-then-are_same_cuts
returns-then-are_same_cuts c = λ entries lengths cuts.
    child_of_concat entries lengths (plan_of c.args.stretch.plan.now) c.args.stretch.old.now c.args.stretch.new.now c.requires.differ cuts (plan_of c.args.left.now) _ c.requires.parts c.requires.right c.sides.ensures.rights c.sides-2.ensures.rights (sym c.sides.ensures.lefts ∙ (c.if-are_same_cuts.ensures.0 holds) ∙ c.sides-2.ensures.lefts)

pub returns : goal.returns
returns c = λ entries lengths cuts.
    law.delta_concat_none entries lengths (plan_of c.args.stretch.plan.now) c.args.stretch.old.now c.args.stretch.new.now (plan_of c.args.left.now) (plan_of c.args.right.now) c.requires.parts c.requires.differ (λ d same k. never (c.if-are_same_cuts.ensures.1 (c.sides.ensures.lefts ∙ same ∙ sym c.sides-2.ensures.lefts)))
