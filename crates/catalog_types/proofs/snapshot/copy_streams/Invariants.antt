-- The items so far.
use Rattle.std.proofs.Common.{◌≡◌, take}
use Rattle.catalog_types.proofs.snapshot.copy_streams.Given as goal

abbrev pub invariant-loop-stream : goal.invariant-loop-stream
invariant-loop-stream l = l.copies.items ≡ take l.stream-index l.streams
