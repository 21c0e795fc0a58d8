-- One item less at each call.
use Rattle.std.proofs.Common.{length}
use Rattle.plan_core.proofs.plan.+are_same_keys.Given as goal

abbrev pub decreases-are_same_keys : goal.decreases-are_same_keys
decreases-are_same_keys l = length l.keys.now
