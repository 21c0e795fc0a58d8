use Rattle.std.proofs.Common.{length}
use Rattle.entry_table.proofs.results.+are_new_to.Given as goal

abbrev pub decreases-are_new_to : goal.decreases-are_new_to
decreases-are_new_to l = length l.kept.now
