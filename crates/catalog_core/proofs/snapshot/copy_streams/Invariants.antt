-- The copies so far are of the first streams.
use Rattle.std.proofs.Common.{◌≡◌, take}
use Rattle.catalog_core.specs.Streams.{states_of}
use Rattle.catalog_core.proofs.snapshot.copy_streams.Given as goal

abbrev pub invariant-loop-stream : goal.invariant-loop-stream
invariant-loop-stream l = l.copies.items ≡ states_of (take l.stream-index l.streams)
