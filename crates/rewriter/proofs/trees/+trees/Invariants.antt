-- The recursion goes down the plan. At one plan a delta comes before its rewriting, and that comes before the forms.
use Rattle.std.proofs.Common.{◌+◌, ◌*◌}
use Rattle.plan_core.specs.OperatorCount.{operator_count}
use Rattle.plan_core.specs.PlainPlan.{plan_of}
use Rattle.rewriter.proofs.trees.+trees.Given as goal

abbrev pub decreases-computed_tree : goal.decreases-computed_tree
decreases-computed_tree g l = 4 * operator_count (plan_of l.part.plan.now) + 0

abbrev pub decreases-tree_from : goal.decreases-tree_from
decreases-tree_from g l = 4 * operator_count (plan_of l.part.plan.now) + 0

abbrev pub decreases-grown_tree : goal.decreases-grown_tree
decreases-grown_tree g l = 4 * operator_count (plan_of l.part.plan.now) + 1

abbrev pub decreases-least_tree : goal.decreases-least_tree
decreases-least_tree g l = 4 * operator_count (plan_of l.part.plan.now) + 2

abbrev pub decreases-delta_tree : goal.decreases-delta_tree
decreases-delta_tree g l = 4 * operator_count (plan_of l.stretch.plan.now) + 3
