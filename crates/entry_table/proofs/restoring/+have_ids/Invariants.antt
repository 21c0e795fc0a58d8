use Rattle.std.proofs.Common.{length}
use Rattle.entry_table.proofs.restoring.+have_ids.Given as goal

abbrev pub decreases-have_ids : goal.decreases-have_ids
decreases-have_ids l = length l.entries.now
