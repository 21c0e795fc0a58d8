use Rattle.group_fold.proofs.AccValues.{groups_have_values}
use Rattle.group_fold.proofs.finishing.finish.Goals as goal

pub finished_rows-requires : goal.finished_rows-requires
finished_rows-requires c = groups_have_values c.args.aggs.now c.args.groups.now c.requires.bounds c.requires.averages
