-- Each step is on a shorter list.
use Rattle.std.proofs.Common.{length}
use Rattle.postfix_plans.proofs.rows.+has_kinds.Given as goal

abbrev pub decreases-has_kinds : goal.decreases-has_kinds
decreases-has_kinds l = length l.values.now
