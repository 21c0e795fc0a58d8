-- The files of the streams so far.
use Rattle.std.proofs.Common.{◌≡◌, take}
use Rattle.catalog_core.specs.OwnFiles.{extent_files}
use Rattle.catalog_core.specs.Streams.{states_of}
use Rattle.catalog_core.proofs.own_files.files_of_streams.Given as goal

abbrev pub invariant-loop-stream : goal.invariant-loop-stream
invariant-loop-stream l = l.files.items ≡ extent_files (states_of (take l.stream-index l.streams))
