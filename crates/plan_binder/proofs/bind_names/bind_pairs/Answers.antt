use Rattle.std.proofs.Common.{rules, ◌≡◌, Err}
use Rattle.plan_core.specs.AllThere.{found_end}
use Rattle.plan_binder.specs.Binding.{bound_pair}
use Rattle.plan_binder.specs.BoundPlan.{items_of}
use Rattle.plan_binder.proofs.Collecting.{starts, goes_on, stops}
use Rattle.plan_binder.proofs.bind_names.bind_pairs.Goals as goal

pub loop-pair-init : goal.loop-pair-init
loop-pair-init c = starts (bound_pair c.args.lefts.now c.args.rights.now) c.args.pairs.now c.in_ok-found.found.items c.in_ok-found.ensures.items

pub loop-pair-preserved : goal.loop-pair-preserved
loop-pair-preserved c =
    goes_on (bound_pair c.args.lefts.now c.args.rights.now) c.args.pairs.now c.loop-pair.pair-index c.pair-item.result c.loop-pair.found.items c.push.new.items.items c.in_ok-places.places
    c.loop-pair-test.true c.pair-item.is c.in_ok-places.ensures c.in_ok-push.ensures c.loop-pair.invariant

pub returns-in_err-places : goal.returns-in_err-places
returns-in_err-places c =
    let refusal = c.in_err-places.field-0.0 in
    let answer = c.from_residual-in_err-places.result in
    let same : answer ≡ Err refusal = search rules in
    stops (bound_pair c.args.lefts.now c.args.rights.now) (λ places. places) items_of refusal answer c.args.pairs.now c.loop-pair.pair-index c.pair-item.result c.loop-pair.found.items
    same c.loop-pair-test.true c.pair-item.is c.loop-pair.invariant c.in_err-places.ensures

pub returns : goal.returns
returns c = found_end (bound_pair c.args.lefts.now c.args.rights.now) c.args.pairs.now c.loop-pair.pair-index c.loop-pair.found.items c.loop-pair-test.false c.loop-pair.invariant
