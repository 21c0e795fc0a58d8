use Rattle.std.proofs.Common.{length}
use Rattle.entry_table.proofs.results.+differ.Given as goal

abbrev pub decreases-differ : goal.decreases-differ
decreases-differ l = length l.kept.now
