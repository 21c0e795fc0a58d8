use Rattle.std.proofs.Common.{refl, ap}
use Rattle.plan_core.specs.PlainPlan.{plan_of}
use Rattle.rewrite_core.proofs.Looking.{never}
use Rattle.rewriter.proofs.Growths.{child_of_row, child_of_distinct}
use Rattle.rewriter.proofs.LeastParts as law
use Rattle.rewriter.proofs.Shapes.{whole_if, holds}
use Rattle.rewriter.proofs.increase.increase_of_one.Goals as goal

pub returns-then-is_by_row : goal.returns-then-is_by_row
returns-then-is_by_row c = λ entries lengths cuts.
    child_of_row entries lengths (plan_of c.args.stretch.plan.now) c.args.stretch.old.now c.args.stretch.new.now c.requires.differ cuts _ (c.if-is_by_row.ensures.0 holds) c.requires.child c.requires.lower refl refl

pub returns-then-is_distinct : goal.returns-then-is_distinct
returns-then-is_distinct c = λ entries lengths cuts.
    child_of_distinct entries lengths (plan_of c.args.stretch.plan.now) c.args.stretch.old.now c.args.stretch.new.now c.requires.differ cuts _ _ (c.if-is_distinct.ensures.0 holds) c.requires.child c.requires.lower refl refl (ap (λ p. plan_of p.plan.now) c.before-then-is_distinct.ensures) (ap (λ p. p.cuts.now) c.before-then-is_distinct.ensures)

pub returns : goal.returns
returns c = λ entries lengths cuts.
    law.delta_whole_none entries lengths (plan_of c.args.stretch.plan.now) c.args.stretch.old.now c.args.stretch.new.now (whole_if (plan_of c.args.stretch.plan.now) (plan_of c.args.child.now) c.requires.child (λ b. never (c.if-is_by_row.ensures.1 b)) (λ b. never (c.if-is_distinct.ensures.1 b))) c.requires.differ
