use Rattle.std.proofs.Common.{subst, sym, Contains}
use Rattle.plan_core.specs.Group.{keys_of}
use Rattle.plan_evaluator.proofs.aggregate.groups_of.Goals as goal

pub group_row-requires : goal.group_row-requires
group_row-requires c =
    subst (Contains (keys_of c.args.keys.now c.args.rows.now)) (sym c.key-item.is) (c.requires c.loop-key.key-index c.key-item.result c.loop-key-test.true)
