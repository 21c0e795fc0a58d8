-- Each step is on a shorter list.
use Rattle.std.proofs.Common.{length}
use Rattle.postfix_plans.proofs.looking.+whole_in.Given as goal

abbrev pub decreases-whole_in : goal.decreases-whole_in
decreases-whole_in l = length l.results.now
