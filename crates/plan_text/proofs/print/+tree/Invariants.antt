-- Each part of a plan has fewer nodes than the whole.
use Rattle.std.proofs.Common.{◌+◌, ◌*◌}
use Rattle.plan_text.specs.PlainNamed.{tree_of}
use Rattle.plan_text.specs.Counts.{nodes}
use Rattle.plan_text.proofs.print.+tree.Given as goal

abbrev pub decreases-put_tree : goal.decreases-put_tree
decreases-put_tree l = 2 * nodes (tree_of l.tree.now)

abbrev pub decreases-put_join : goal.decreases-put_join
decreases-put_join l = 2 * nodes (tree_of l.right.now) + 1

abbrev pub decreases-put_concat : goal.decreases-put_concat
decreases-put_concat l = 2 * nodes (tree_of l.right.now) + 1
