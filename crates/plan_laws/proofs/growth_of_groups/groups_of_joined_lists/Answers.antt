use Rattle.plan_laws.proofs.MergedGroups.{joined_lists}
use Rattle.plan_laws.proofs.growth_of_groups.groups_of_joined_lists.Goals as goal

pub returns : goal.returns
returns c = joined_lists
