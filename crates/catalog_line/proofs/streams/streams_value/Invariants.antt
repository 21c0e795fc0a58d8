-- The values so far are of the first streams.
use Rattle.std.proofs.Common.{◌≡◌, map, take}
use Rattle.serde_json.specs.View.{view}
use Rattle.catalog_core.specs.Streams.{states_of}
use Rattle.catalog_line.specs.CatalogData.{stream_data}
use Rattle.catalog_line.proofs.streams.streams_value.Given as goal

abbrev pub invariant-loop-stream : goal.invariant-loop-stream
invariant-loop-stream l = map view l.items.items ≡ map stream_data (states_of (take l.stream-index l.streams))
