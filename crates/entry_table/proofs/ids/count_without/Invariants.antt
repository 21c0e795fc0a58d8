-- The count is that of the entries passed.
use Rattle.std.proofs.Common.{◌≡◌, length, take}
use Rattle.entry_table.specs.Ids.{without}
use Rattle.entry_table.proofs.ids.count_without.Given as goal

abbrev pub invariant-loop-entry : goal.invariant-loop-entry
invariant-loop-entry l = l.count ≡ length (without l.ids (take l.entry-index l.entries))
