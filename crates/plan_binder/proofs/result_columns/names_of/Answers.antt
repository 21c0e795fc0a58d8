use Rattle.std.proofs.Common.{◌∙◌}
use Rattle.plan_binder.proofs.Collecting.{copied_more, copied_all}
use Rattle.plan_binder.proofs.result_columns.names_of.Goals as goal

pub loop-named-preserved : goal.loop-named-preserved
loop-named-preserved g c =
    copied_more g.T.Named.name_of c.args.items.now c.loop-named.named-index c.named-item.result c.loop-named.names.items c.push.new.items.items c.in_ok-name.name
    c.loop-named-test.true c.named-item.is (c.in_ok-name.ensures ∙ c.name.ensures) c.in_ok-push.ensures c.loop-named.invariant

pub returns : goal.returns
returns g c = copied_all g.T.Named.name_of c.args.items.now c.loop-named.named-index c.loop-named.names.items c.loop-named-test.false c.loop-named.invariant
