-- One item less at each call.
use Rattle.std.proofs.Common.{length}
use Rattle.plan_core.proofs.plan.+are_same_aggs.Given as goal

abbrev pub decreases-are_same_aggs : goal.decreases-are_same_aggs
decreases-are_same_aggs l = length l.aggs.now
