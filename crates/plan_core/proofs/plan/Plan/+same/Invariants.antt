-- A part of a plan has fewer operators than the plan.
use Rattle.std.proofs.Common.{◌+◌, ◌*◌}
use Rattle.plan_core.specs.PlainPlan.{plan_of}
use Rattle.plan_core.specs.OperatorCount.{operator_count}
use Rattle.plan_core.proofs.plan.Plan.+same.Given as goal

abbrev pub decreases-is_same : goal.decreases-is_same
decreases-is_same l = 2 * operator_count (plan_of l.self.now) + 1

abbrev pub decreases-is_filter : goal.decreases-is_filter
decreases-is_filter l = 2 * operator_count (plan_of l.child.now) + 2

abbrev pub decreases-is_project : goal.decreases-is_project
decreases-is_project l = 2 * operator_count (plan_of l.child.now) + 2

abbrev pub decreases-is_distinct : goal.decreases-is_distinct
decreases-is_distinct l = 2 * operator_count (plan_of l.child.now) + 2

abbrev pub decreases-is_group : goal.decreases-is_group
decreases-is_group l = 2 * operator_count (plan_of l.child.now) + 2

abbrev pub decreases-is_join : goal.decreases-is_join
decreases-is_join l = 2 * (operator_count (plan_of l.left.now) + operator_count (plan_of l.right.now)) + 2

abbrev pub decreases-is_concat : goal.decreases-is_concat
decreases-is_concat l = 2 * (operator_count (plan_of l.left.now) + operator_count (plan_of l.right.now)) + 2

abbrev pub decreases-is_order : goal.decreases-is_order
decreases-is_order l = 2 * operator_count (plan_of l.child.now) + 2
