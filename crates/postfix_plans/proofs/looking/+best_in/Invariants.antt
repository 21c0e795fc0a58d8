-- Each step is on a shorter list.
use Rattle.std.proofs.Common.{length}
use Rattle.postfix_plans.proofs.looking.+best_in.Given as goal

abbrev pub decreases-best_in : goal.decreases-best_in
decreases-best_in l = length l.results.now
