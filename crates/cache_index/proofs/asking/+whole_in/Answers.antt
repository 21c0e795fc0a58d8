use Rattle.plan_core.specs.PlainPlan.{plan_of}
use Rattle.rewrite_core.proofs.Looking.{never, holds}
use Rattle.cache_index.proofs.Answering.{first_whole, whole_among}
use Rattle.cache_index.proofs.asking.+whole_in.Goals as goal

pub returns-then-is_whole : goal.returns-then-is_whole
returns-then-is_whole t c =
    first_whole c.args.without.now (plan_of c.args.plan.now) c.args.cuts.now c.args.entries.now c.first-item.result _ c.in-len1-up.len_at_least c.first-item.is (c.if-is_whole.ensures.0 holds) c.in_ok-hit_of-in-len1-up.ensures

pub returns-in_ok-found-in-len1-up : goal.returns-in_ok-found-in-len1-up
returns-in_ok-found-in-len1-up t c =
    whole_among c.args.without.now (plan_of c.args.plan.now) c.args.cuts.now c.args.entries.now c.first-item.result _ c.in-len1-up.len_at_least c.first-item.is (λ at. never (c.if-is_whole.ensures.1 at)) c.in_ok-found-in-len1-up.ensures
