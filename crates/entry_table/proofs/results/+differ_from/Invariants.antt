use Rattle.std.proofs.Common.{length}
use Rattle.entry_table.proofs.results.+differ_from.Given as goal

abbrev pub decreases-differ_from : goal.decreases-differ_from
decreases-differ_from l = length l.others.now
