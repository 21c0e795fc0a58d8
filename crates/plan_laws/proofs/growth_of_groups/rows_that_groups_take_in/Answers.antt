use Rattle.plan_laws.proofs.MergedGroups.{more_taken_in}
use Rattle.plan_laws.proofs.growth_of_groups.rows_that_groups_take_in.Goals as goal

pub returns : goal.returns
returns c = more_taken_in
