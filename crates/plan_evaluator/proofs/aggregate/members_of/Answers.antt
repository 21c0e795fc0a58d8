use Rattle.std.proofs.Common.{rules}
use Rattle.plan_core.specs.Group.{members_of}
use Rattle.plan_evaluator.proofs.Loops.{more, if_member, members_step}
use Rattle.plan_evaluator.proofs.aggregate.members_of.Goals as goal

pub loop-row-preserved : goal.loop-row-preserved
loop-row-preserved c =
    more (λ rows. members_of c.args.keys.now rows c.args.key.now) (if_member c.args.keys.now c.args.key.now) (members_step c.args.keys.now c.args.key.now)
    c.args.rows.now _ _ c.row-item.result c.loop-row.row-index (search rules) c.row-item.is c.loop-row.invariant c.in_ok-put_member.ensures
