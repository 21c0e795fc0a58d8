use Rattle.std.proofs.Common.{ap}
use Rattle.plan_core.specs.PlainPlan.{plan_of}
use Rattle.executor.proofs.FileBounds.{groups_do_at}
use Rattle.executor.proofs.entry.is_bounded.Goals as goal

pub returns-in-Group : goal.returns-in-Group
returns-in-Group c =
    groups_do_at c.requires.0 (plan_of c.args.plan.now) c.args.kept.now (plan_of c.in-Group.child.value) c.in-Group.keys c.in-Group.aggs c.items-in-Group.result.now c.in-Groups.groups c.items.result.now c.are_bounded.result
    (ap plan_of c.in-Group.is) c.in-Groups.is c.items-in-Group.ensures c.items.ensures c.requires.1 c.are_bounded.ensures
