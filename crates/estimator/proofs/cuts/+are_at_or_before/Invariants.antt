-- Each step is on a shorter list.
use Rattle.std.proofs.Common.{length}
use Rattle.estimator.proofs.cuts.+are_at_or_before.Given as goal

abbrev pub decreases-are_at_or_before : goal.decreases-are_at_or_before
decreases-are_at_or_before l = length l.cuts.now
