use Rattle.std.proofs.Common.{refl, None, Some}
use Rattle.plan_core.specs.PlainPlan.{plan_of}
use Rattle.cache_index.proofs.Listing.{whole_listed, whole_past_listed, none_listed}
use Rattle.cache_index.proofs.asking.whole_among.Goals as goal

pub returns-in-Some : goal.returns-in-Some
returns-in-Some c =
    c.loop-rest.invariant (Some c.in_ok-hit_of.field-0)
    (whole_listed c.args.without.now (plan_of c.args.plan.now) c.args.cuts.now c.args.entries.now c.loop-rest.rest.now _ c.in-Some.entry.now c.in_ok-hit_of.field-0 c.in-len1-up.len_at_least refl c.in-Some.ensures.found.0 c.in-Some.ensures.found.1 c.in_ok-hit_of.ensures)

pub loop-rest-preserved : goal.loop-rest-preserved
loop-rest-preserved c = λ found answers.
    c.loop-rest.invariant found
    (whole_past_listed c.args.without.now (plan_of c.args.plan.now) c.args.cuts.now c.args.entries.now c.loop-rest.rest.now _ _ found c.in-len1-up.len_at_least refl refl (c.in_default-whole_at.ensures.none refl) answers)

pub returns : goal.returns
returns c =
    c.loop-rest.invariant None (none_listed c.args.without.now (plan_of c.args.plan.now) c.args.cuts.now c.args.entries.now c.loop-rest.rest.now c.in_default.len_below)
