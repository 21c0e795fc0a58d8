use Rattle.plan_laws.proofs.KeptRows.{groups_kept}
use Rattle.plan_laws.proofs.growth_of_groups.rows_of_groups.Goals as goal

pub returns : goal.returns
returns c = groups_kept
