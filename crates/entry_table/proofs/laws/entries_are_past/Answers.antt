use Rattle.entry_table.proofs.Past.{past-work, past-collection}
use Rattle.entry_table.proofs.laws.entries_are_past.Goals as goal

pub returns-clause-work : goal.returns-clause-work
returns-clause-work c = past-work

pub returns-clause-collection : goal.returns-clause-collection
returns-clause-collection c = past-collection
