use Rattle.growth_laws.proofs.AddedRows.{join_added}
use Rattle.growth_laws.proofs.added.rows_added_to_joins.Goals as goal

pub returns : goal.returns
returns c = join_added
