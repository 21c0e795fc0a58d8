-- Each step is on a shorter list.
use Rattle.std.proofs.Common.{length}
use Rattle.estimator.proofs.cuts.+reach.Given as goal

abbrev pub decreases-reach : goal.decreases-reach
decreases-reach l = length l.cuts.now
