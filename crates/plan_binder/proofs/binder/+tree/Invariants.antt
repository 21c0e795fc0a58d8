-- Each part of a plan has fewer nodes than the whole.
use Rattle.std.proofs.Common.{◌+◌, ◌*◌}
use Rattle.plan_text.specs.PlainNamed.{tree_of}
use Rattle.plan_text.specs.Counts.{nodes}
use Rattle.plan_binder.proofs.binder.+tree.Given as goal

abbrev pub decreases-bound_tree : goal.decreases-bound_tree
decreases-bound_tree g l = 2 * nodes (tree_of l.tree.now)

abbrev pub decreases-bound_join : goal.decreases-bound_join
decreases-bound_join g l = 2 * (nodes (tree_of l.left.now) + nodes (tree_of l.right.now)) + 1

abbrev pub decreases-bound_concat : goal.decreases-bound_concat
decreases-bound_concat g l = 2 * (nodes (tree_of l.left.now) + nodes (tree_of l.right.now)) + 1
