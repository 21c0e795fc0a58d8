-- Each step is on a shorter list.
use Rattle.std.proofs.Common.{length}
use Rattle.postfix_plans.proofs.soundness.+are_intervals.Given as goal

abbrev pub decreases-are_intervals : goal.decreases-are_intervals
decreases-are_intervals l = length l.cuts.now
