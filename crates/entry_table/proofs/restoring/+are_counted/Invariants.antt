use Rattle.std.proofs.Common.{length}
use Rattle.entry_table.proofs.restoring.+are_counted.Given as goal

abbrev pub decreases-are_counted : goal.decreases-are_counted
decreases-are_counted l = length l.entries.now
