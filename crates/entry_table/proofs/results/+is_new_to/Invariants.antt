use Rattle.std.proofs.Common.{length}
use Rattle.entry_table.proofs.results.+is_new_to.Given as goal

abbrev pub decreases-is_new_to : goal.decreases-is_new_to
decreases-is_new_to l = length l.entries.now
