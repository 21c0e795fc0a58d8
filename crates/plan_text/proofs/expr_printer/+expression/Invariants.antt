-- Each part of an expression has fewer nodes than the whole.
use Rattle.std.proofs.Common.{◌+◌, ◌*◌}
use Rattle.plan_text.specs.PlainNamed.{expr_of}
use Rattle.plan_text.specs.Counts.{expr_nodes}
use Rattle.plan_text.proofs.expr_printer.+expression.Given as goal

abbrev pub decreases-put_expr : goal.decreases-put_expr
decreases-put_expr l = 8 * expr_nodes (expr_of l.expr.now) + 1

abbrev pub decreases-put_bare : goal.decreases-put_bare
decreases-put_bare l = 8 * expr_nodes (expr_of l.expr.now)

abbrev pub decreases-put_between : goal.decreases-put_between
decreases-put_between l = 8 * (expr_nodes (expr_of l.left.now) + expr_nodes (expr_of l.right.now)) + 2

abbrev pub decreases-put_call1 : goal.decreases-put_call1
decreases-put_call1 l = 8 * expr_nodes (expr_of l.arg.now) + 4

abbrev pub decreases-put_behind : goal.decreases-put_behind
decreases-put_behind l = 8 * expr_nodes (expr_of l.arg.now) + 2

abbrev pub decreases-put_function1 : goal.decreases-put_function1
decreases-put_function1 l = 8 * expr_nodes (expr_of l.arg.now) + 3

abbrev pub decreases-put_binary : goal.decreases-put_binary
decreases-put_binary l = 8 * (expr_nodes (expr_of l.left.now) + expr_nodes (expr_of l.right.now)) + 5

abbrev pub decreases-put_call2 : goal.decreases-put_call2
decreases-put_call2 l = 8 * (expr_nodes (expr_of l.left.now) + expr_nodes (expr_of l.right.now)) + 4

abbrev pub decreases-put_function2 : goal.decreases-put_function2
decreases-put_function2 l = 8 * (expr_nodes (expr_of l.left.now) + expr_nodes (expr_of l.right.now)) + 3

abbrev pub decreases-put_choice : goal.decreases-put_choice
decreases-put_choice l = 8 * (expr_nodes (expr_of l.test.now) + (expr_nodes (expr_of l.first.now) + expr_nodes (expr_of l.last.now))) + 3
