-- What is loaded of all parts is the pieces so far, and then what is loaded of the others, of which nothing is left.
use Rattle.std.proofs.Common.{◌≡◌, ◌++◌, [], length, map}
use Rattle.std.specs.Vec.Iter.{into_iter_items, into_iter_len}
use Rattle.executor.specs.Loads.{load_of_part}
use Rattle.executor.specs.Progress.{left_in}
use Rattle.executor.proofs.finishing.loaded_pieces.Given as goal

abbrev pub invariant-loop-part : goal.invariant-loop-part
invariant-loop-part l = record {
  left : into_iter_len l.part-iterator ≡ length (into_iter_items l.part-iterator);
  nothing : left_in (into_iter_items l.part-iterator) ≡ [];
  given : map load_of_part l.fn.parts.items ≡ l.pieces.items ++ map load_of_part (into_iter_items l.part-iterator);
}
