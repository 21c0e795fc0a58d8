-- Each step is on a shorter list.
use Rattle.std.proofs.Common.{length}
use Rattle.estimator.proofs.cuts.+are_same_cuts.Given as goal

abbrev pub decreases-are_same_cuts : goal.decreases-are_same_cuts
decreases-are_same_cuts l = length l.cuts.now
