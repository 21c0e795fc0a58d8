-- The kinds of the streams so far.
use Rattle.std.proofs.Common.{◌≡◌, take}
use Rattle.catalog_core.specs.Programs.{kinds_of_streams}
use Rattle.catalog_core.specs.Streams.{states_of}
use Rattle.catalog_core.proofs.restored_streams.schemas_of.Given as goal

abbrev pub invariant-loop-stream : goal.invariant-loop-stream
invariant-loop-stream l = l.kinds.items ≡ kinds_of_streams (states_of (take l.stream-index l.streams))
