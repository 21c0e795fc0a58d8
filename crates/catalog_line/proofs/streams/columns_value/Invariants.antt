-- The values so far are of the first columns.
use Rattle.std.proofs.Common.{◌≡◌, map, take}
use Rattle.serde_json.specs.View.{view}
use Rattle.catalog_line.specs.CatalogData.{column_data}
use Rattle.catalog_line.proofs.streams.columns_value.Given as goal

abbrev pub invariant-loop-column : goal.invariant-loop-column
invariant-loop-column l = map view l.items.items ≡ map column_data (take l.column-index l.columns)
