-- The parts of the pieces so far.
use Rattle.std.proofs.Common.{◌≡◌, ◌++◌, length}
use Rattle.std.specs.Vec.Iter.{into_iter_items, into_iter_len}
use Rattle.row_blob.specs.Kept.{AreEach}
use Rattle.executor.specs.Pieces.{pieces_said}
use Rattle.executor.specs.Beginning.{IsBegun}
use Rattle.executor.proofs.beginning.parts_of.Given as goal

abbrev pub invariant-loop-piece : goal.invariant-loop-piece
invariant-loop-piece l = record {
  whole : l.yielded ++ into_iter_items l.piece-iterator ≡ l.fn.pieces.items;
  left : into_iter_len l.piece-iterator ≡ length (into_iter_items l.piece-iterator);
  begun : AreEach IsBegun (pieces_said l.yielded) l.parts.items;
}
