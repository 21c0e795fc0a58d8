use Rattle.entry_table.proofs.OwnIds.{ascending-own}
use Rattle.entry_table.proofs.laws.ascending_ids_differ.Goals as goal

pub returns : goal.returns
returns c = ascending-own
