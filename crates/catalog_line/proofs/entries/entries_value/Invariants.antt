-- The values so far are of the first kept results.
use Rattle.std.proofs.Common.{◌≡◌, map, take}
use Rattle.serde_json.specs.View.{view}
use Rattle.catalog_core.specs.Streams.{states_of}
use Rattle.catalog_line.specs.CatalogData.{entry_data}
use Rattle.catalog_line.proofs.entries.entries_value.Given as goal

abbrev pub invariant-loop-entry : goal.invariant-loop-entry
invariant-loop-entry l = map view l.items.items ≡ map (entry_data (states_of l.streams)) (take l.entry-index l.entries)
