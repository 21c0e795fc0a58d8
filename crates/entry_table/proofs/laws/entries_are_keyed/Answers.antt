use Rattle.entry_table.proofs.KeyedEntries.{keyed-work, keyed-collection, keyed-made, keyed-same}
use Rattle.entry_table.proofs.laws.entries_are_keyed.Goals as goal

pub returns-clause-work : goal.returns-clause-work
returns-clause-work c = keyed-work

pub returns-clause-collection : goal.returns-clause-collection
returns-clause-collection c = keyed-collection

pub returns-clause-made : goal.returns-clause-made
returns-clause-made c = keyed-made

pub returns-clause-same : goal.returns-clause-same
returns-clause-same c = keyed-same
