-- One item less at each call.
use Rattle.std.proofs.Common.{length}
use Rattle.plan_core.proofs.plan.+are_same_exprs.Given as goal

abbrev pub decreases-are_same_exprs : goal.decreases-are_same_exprs
decreases-are_same_exprs l = length l.exprs.now
