use Rattle.plan_laws.proofs.GroupBounds.{kept_within_bounds}
use Rattle.plan_laws.proofs.growth_of_groups.groups_of_files_are_within_bounds.Goals as goal

pub returns : goal.returns
returns c = kept_within_bounds
