-- The recursion goes down the plan. At one plan a delta comes before its choices, and those come before the forms.
use Rattle.std.proofs.Common.{◌+◌, ◌*◌, max}
use Rattle.plan_core.specs.OperatorCount.{operator_count}
use Rattle.plan_core.specs.PlainPlan.{plan_of}
use Rattle.rewriter.proofs.search.+search.Given as goal

abbrev pub decreases-computed_at : goal.decreases-computed_at
decreases-computed_at g l = 10 * operator_count (plan_of l.part.plan.now) + 0

abbrev pub decreases-grown_from : goal.decreases-grown_from
decreases-grown_from g l = 10 * operator_count (plan_of l.part.plan.now) + 0

abbrev pub decreases-grown_at : goal.decreases-grown_at
decreases-grown_at g l = 10 * operator_count (plan_of l.part.plan.now) + 1

abbrev pub decreases-choose_at : goal.decreases-choose_at
decreases-choose_at g l = 10 * operator_count (plan_of l.part.plan.now) + 2

abbrev pub decreases-choice_at : goal.decreases-choice_at
decreases-choice_at g l = 10 * operator_count (plan_of l.part.plan.now) + 3

abbrev pub decreases-pair_at : goal.decreases-pair_at
decreases-pair_at g l = max (10 * operator_count (plan_of l.stretch.plan.now) + 7) (10 * operator_count (plan_of l.part.plan.now) + 4)

abbrev pub decreases-increased_at : goal.decreases-increased_at
decreases-increased_at g l = 10 * operator_count (plan_of l.stretch.plan.now) + 5

abbrev pub decreases-price_at : goal.decreases-price_at
decreases-price_at g l = 10 * operator_count (plan_of l.stretch.plan.now) + 6
