use Rattle.plan_laws.proofs.GroupBounds.{groups_of_valid_rows, averages_of_valid_rows}
use Rattle.plan_laws.proofs.growth_of_groups.groups_are_within_bounds.Goals as goal

pub returns-clause-bounds : goal.returns-clause-bounds
returns-clause-bounds c = groups_of_valid_rows

pub returns-clause-averages : goal.returns-clause-averages
returns-clause-averages c = averages_of_valid_rows
