use Rattle.std.proofs.Common.{length}
use Rattle.cases_executor.proofs.within.+end_within.Given as goal

abbrev pub decreases-end_within : goal.decreases-end_within
decreases-end_within l = length l.leaves.now
