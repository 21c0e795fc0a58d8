use Rattle.growth_laws.proofs.LeafLists.{longer_interval}
use Rattle.growth_laws.proofs.lists.rows_of_longer_intervals.Goals as goal

pub returns : goal.returns
returns c = longer_interval
