use Rattle.entry_table.proofs.IndexedEntries.{index_of_none}
use Rattle.entry_table.proofs.table.EntryTable.new.Goals as goal

pub invariant_of-result-clause-indexed : goal.invariant_of-result-clause-indexed
invariant_of-result-clause-indexed c = index_of_none c.new.result.items c.new-3.result c.new.ensures.items c.new-3.ensures.programs c.new-3.ensures.keys
