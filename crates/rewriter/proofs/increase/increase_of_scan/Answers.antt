use Rattle.plan_core.specs.PlainPlan.{plan_of}
use Rattle.rewrite_core.proofs.Looking.{never}
use Rattle.rewriter.proofs.LeastParts as law
use Rattle.rewriter.proofs.increase.increase_of_scan.Goals as goal

pub returns : goal.returns
returns c = λ entries lengths cuts.
    law.delta_scan_none entries lengths (plan_of c.args.stretch.plan.now) c.args.stretch.old.now c.args.stretch.new.now c.requires.scan c.requires.differ (λ l. never (c.if-is_longer.ensures.1 l))
