use Rattle.std.proofs.Common.{length}
use Rattle.admission.proofs.deciding.+count_that_stay.Given as goal

abbrev pub decreases-count_that_stay : goal.decreases-count_that_stay
decreases-count_that_stay l = length l.entries.now
