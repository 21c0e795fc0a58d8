use Rattle.std.proofs.Common.{rules, ◌≡◌, Err}
use Rattle.plan_core.specs.AllThere.{found_end}
use Rattle.plan_binder.specs.BoundPlan.{items_of}
use Rattle.plan_binder.proofs.Collecting.{starts, goes_on, stops}
use Rattle.plan_binder.proofs.bind_names.bind_all.Goals as goal

pub loop-named-init : goal.loop-named-init
loop-named-init g c = starts (g.T.Bind.bound c.args.names.now) c.args.items.now c.in_ok-found.found.items c.in_ok-found.ensures.items

pub loop-named-preserved : goal.loop-named-preserved
loop-named-preserved g c =
    goes_on (g.T.Bind.bound c.args.names.now) c.args.items.now c.loop-named.named-index c.named-item.result c.loop-named.found.items c.push.new.items.items c.in_ok-bound.bound
    c.loop-named-test.true c.named-item.is c.in_ok-bound.ensures c.in_ok-push.ensures c.loop-named.invariant

pub returns-in_err-bound : goal.returns-in_err-bound
returns-in_err-bound g c =
    let refusal = c.in_err-bound.field-0.0 in
    let answer = c.from_residual-in_err-bound.result in
    let same : answer ≡ Err refusal = search rules in
    stops (g.T.Bind.bound c.args.names.now) (λ bound. bound) items_of refusal answer c.args.items.now c.loop-named.named-index c.named-item.result c.loop-named.found.items
    same c.loop-named-test.true c.named-item.is c.loop-named.invariant c.in_err-bound.ensures

pub returns : goal.returns
returns g c = found_end (g.T.Bind.bound c.args.names.now) c.args.items.now c.loop-named.named-index c.loop-named.found.items c.loop-named-test.false c.loop-named.invariant
