use Rattle.plan_core.specs.PlainPlan.{plan_of}
use Rattle.rewrite_core.proofs.Looking.{never}
use Rattle.postfix_plans.proofs.Lists.{whole_among}
use Rattle.postfix_plans.proofs.looking.+whole_in.Goals as goal

pub returns-in_ok-found-in-len1-up : goal.returns-in_ok-found-in-len1-up
returns-in_ok-found-in-len1-up t c =
    whole_among c.args.results.now c.first-item.result (plan_of c.args.plan.now) c.args.cuts.now _ c.in-len1-up.len_at_least c.first-item.is (λ at. never (c.if-is_at.ensures.1 at)) c.in_ok-found-in-len1-up.ensures
