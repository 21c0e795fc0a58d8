-- The lists of the leaves so far.
use Rattle.std.proofs.Common.{◌≡◌, map, take, Some, slice_get}
use Rattle.postfix_plans.proofs.rows.lists_of.Given as goal

abbrev pub invariant-loop-leaf : goal.invariant-loop-leaf
invariant-loop-leaf l = map Some l.lists.items ≡ map (slice_get l.streams) (take l.leaf-index l.leaves)
