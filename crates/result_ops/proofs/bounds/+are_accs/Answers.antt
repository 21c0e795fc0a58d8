use Rattle.result_ops.proofs.BoundedGroups.{holds, no_accs, accs_there}
use Rattle.result_ops.proofs.bounds.+are_accs.Goals as goal

pub returns-in_default : goal.returns-in_default
returns-in_default t c = no_accs c.args.aggs.now c.args.accs.now c.in_default.len_below c.is_empty.result c.is_empty.ensures

pub returns-then-is_acc : goal.returns-then-is_acc
returns-then-is_acc t c =
    accs_there c.args.aggs.now c.args.accs.now _ c.acc-item.result c.in-len1-up-aggs.len_at_least c.in-len1-up.len_at_least c.acc-item.is (c.if-is_acc.ensures.0 holds) c.are_accs.result c.are_accs.ensures
