-- Each step is on a shorter list.
use Rattle.std.proofs.Common.{length}
use Rattle.postfix_plans.proofs.extents.+are_in_streams.Given as goal

abbrev pub decreases-are_in_streams : goal.decreases-are_in_streams
decreases-are_in_streams l = length l.leaves.now
