use Rattle.std.proofs.Common.{sym, ◌∙◌}
use Rattle.plan_core.specs.PlainPlan.{plan_of}
use Rattle.rewrite_core.proofs.Looking.{never}
use Rattle.rewriter.proofs.Growths.{children_of_join}
use Rattle.rewriter.proofs.LeastParts as law
use Rattle.rewriter.proofs.Shapes.{holds}
use Rattle.rewriter.proofs.increase.increase_of_join.Goals as goal

pub returns-then-are_same_cuts : goal.returns-then-are_same_cuts
returns-then-are_same_cuts c = λ entries lengths cuts.
    children_of_join entries lengths (plan_of c.args.stretch.plan.now) c.args.stretch.old.now c.args.stretch.new.now c.requires.differ cuts _ _ c.requires.sides c.requires.left c.requires.right c.sides.ensures.lefts c.sides-2.ensures.lefts c.sides-2.ensures.rights (sym c.sides.ensures.rights ∙ (c.if-are_same_cuts.ensures.0 holds) ∙ c.sides-2.ensures.rights)

pub returns : goal.returns
returns c = λ entries lengths cuts.
    law.delta_join_none entries lengths (plan_of c.args.stretch.plan.now) c.args.stretch.old.now c.args.stretch.new.now (plan_of c.args.left.now) (plan_of c.args.right.now) c.requires.sides c.requires.differ (λ d same k. never (c.if-are_same_cuts.ensures.1 (c.sides.ensures.rights ∙ same ∙ sym c.sides-2.ensures.rights)))
