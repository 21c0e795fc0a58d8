-- Each part of an expression has fewer nodes than the whole.
use Rattle.std.proofs.Common.{◌+◌, ◌*◌}
use Rattle.plan_text.specs.PlainNamed.{expr_of}
use Rattle.plan_text.specs.Counts.{expr_nodes}
use Rattle.plan_binder.proofs.bind_expr.+expression.Given as goal

abbrev pub decreases-bind_expr : goal.decreases-bind_expr
decreases-bind_expr l = 2 * expr_nodes (expr_of l.e.now)

abbrev pub decreases-bind_operands : goal.decreases-bind_operands
decreases-bind_operands l = 2 * (expr_nodes (expr_of l.left.now) + expr_nodes (expr_of l.right.now)) + 1

abbrev pub decreases-bind_choice : goal.decreases-bind_choice
decreases-bind_choice l = 2 * (expr_nodes (expr_of l.test.now) + (expr_nodes (expr_of l.first.now) + expr_nodes (expr_of l.last.now))) + 1
