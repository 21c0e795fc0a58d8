-- A part of a plan has fewer operators than the plan.
use Rattle.plan_core.specs.PlainPlan.{plan_of}
use Rattle.plan_core.specs.OperatorCount.{operator_count}
use Rattle.plan_evaluator.proofs.evaluator.+evaluate.Given as goal

abbrev pub decreases-evaluate : goal.decreases-evaluate
decreases-evaluate l = operator_count (plan_of l.plan.now)
