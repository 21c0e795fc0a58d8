-- One item less at each call.
use Rattle.std.proofs.Common.{length}
use Rattle.plan_core.proofs.plan_types.+are_same_kinds.Given as goal

abbrev pub decreases-are_same_kinds : goal.decreases-are_same_kinds
decreases-are_same_kinds l = length l.left.now
