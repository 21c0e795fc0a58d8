use Rattle.std.proofs.Common.{refl}
use Rattle.plan_core.specs.PlainPlan.{plan_of}
use Rattle.cache_index.proofs.Listing.{best_listed, best_past_listed}
use Rattle.cache_index.proofs.asking.+best_among.Goals as goal

pub returns-in-Some : goal.returns-in-Some
returns-in-Some t c =
    best_listed c.args.without.now (plan_of c.args.plan.now) c.args.cuts.now c.args.entries.now c.args.ids.now _ _ c.in-Some.entry.now c.in_ok-best-in-len1-up.best c.in_ok-hit_of-in-len1-up.field-0 c.in-len1-up.len_at_least refl refl
    c.in-Some.ensures.found.0 c.in-Some.ensures.found.1 c.in-Some.ensures.found.2 c.in_ok-hit_of-in-len1-up.ensures c.in_ok-best-in-len1-up.ensures

pub returns-in_default : goal.returns-in_default
returns-in_default t c =
    best_past_listed c.args.without.now (plan_of c.args.plan.now) c.args.cuts.now c.args.entries.now c.args.ids.now _ _ c.in_ok-best-in-len1-up.best c.in-len1-up.len_at_least refl refl
    (c.in_default.ensures.none refl) c.in_ok-best-in-len1-up.ensures
