-- The recursion goes down the tree. At one way the parts of a grown result come after the way.
use Rattle.std.proofs.Common.{◌+◌, ◌*◌}
use Rattle.rewrite_core.specs.PlainRewriting.{rewriting_of, way_of, delta_of}
use Rattle.made_places.proofs.Sizes.{size_of, way_size, parts_size, delta_size}
use Rattle.made_places.proofs.marks.+marks.Given as goal

abbrev pub decreases-marked : goal.decreases-marked
decreases-marked l = 2 * size_of (rewriting_of l.tree.now)

abbrev pub decreases-marked_in : goal.decreases-marked_in
decreases-marked_in l = 2 * way_size (way_of l.way.now) + 1

abbrev pub decreases-marked_in_grown : goal.decreases-marked_in_grown
decreases-marked_in_grown l = 2 * parts_size l.parts.now

abbrev pub decreases-marked_in_delta : goal.decreases-marked_in_delta
decreases-marked_in_delta l = 2 * delta_size (delta_of l.delta.now)
