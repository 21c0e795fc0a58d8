-- Fewer levels at each call.
use Rattle.std.proofs.Common.{◌<◌}
use Rattle.cases_hostile.proofs.plans.+expression.Given as goal

abbrev pub decreases-expression : goal.decreases-expression
decreases-expression l = l.levels

abbrev pub invariant-loop : goal.invariant-loop
invariant-loop l = l.below < l.levels
