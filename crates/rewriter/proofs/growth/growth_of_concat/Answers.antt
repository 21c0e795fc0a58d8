use Rattle.std.proofs.Common.{sym, ap, ◌∙◌}
use Rattle.plan_core.specs.PlainPlan.{plan_of}
use Rattle.rewrite_core.specs.IsRewriting.{lefts, rights}
use Rattle.rewrite_core.proofs.Looking.{never}
use Rattle.rewriter.proofs.Growths.{tail_of_concat, no_concat}
use Rattle.rewriter.proofs.Shapes.{holds}
use Rattle.rewriter.proofs.growth.growth_of_concat.Goals as goal

pub returns-then-are_same_cuts : goal.returns-then-are_same_cuts
returns-then-are_same_cuts c = λ entries lengths sound cut here.
    tail_of_concat entries lengths sound (plan_of c.args.part.plan.now) c.args.part.cuts.now c.args.hit.now here cut (plan_of c.args.left.now) _ c.requires.parts c.requires.right
    (c.sides.ensures.rights ∙ ap (rights (plan_of c.args.left.now)) c.items.ensures) c.sides-2.ensures.rights
    (sym (c.sides.ensures.lefts ∙ ap (lefts (plan_of c.args.left.now)) c.items.ensures) ∙ (c.if-are_same_cuts.ensures.0 holds) ∙ c.sides-2.ensures.lefts)

pub returns : goal.returns
returns c = λ entries lengths sound cut here.
    no_concat entries lengths sound (plan_of c.args.part.plan.now) c.args.part.cuts.now c.args.hit.now here cut (plan_of c.args.left.now) (plan_of c.args.right.now) c.requires.parts
    (λ e. never (c.if-are_same_cuts.ensures.1 ((c.sides.ensures.lefts ∙ ap (lefts (plan_of c.args.left.now)) c.items.ensures) ∙ e ∙ sym c.sides-2.ensures.lefts)))
