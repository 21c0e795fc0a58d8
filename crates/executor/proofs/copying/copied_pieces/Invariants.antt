-- What is loaded of the parts so far.
use Rattle.std.proofs.Common.{◌≡◌, map, take}
use Rattle.executor.specs.Loads.{load_of_part}
use Rattle.executor.proofs.copying.copied_pieces.Given as goal

abbrev pub invariant-loop-part : goal.invariant-loop-part
invariant-loop-part l = l.pieces.items ≡ map load_of_part (take l.part-index l.parts)
