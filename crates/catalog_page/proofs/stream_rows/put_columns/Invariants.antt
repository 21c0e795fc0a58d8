-- The columns so far.
use Rattle.std.proofs.Common.{◌≡◌, ◌++◌, take}
use Rattle.std.specs.List.{flat_map}
use Rattle.catalog_page.specs.Markup.{written}
use Rattle.catalog_page.specs.Page.{column_pieces}
use Rattle.catalog_page.proofs.stream_rows.put_columns.Given as goal

abbrev pub invariant-loop-column : goal.invariant-loop-column
invariant-loop-column l = l.to.items ≡ l.fn.to.items ++ written (flat_map column_pieces (take l.column-index l.columns))
