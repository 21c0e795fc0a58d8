-- The rows so far are of the streams so far.
use Rattle.std.proofs.Common.{◌≡◌, ◌++◌, map, take}
use Rattle.std.specs.List.{flat_map}
use Rattle.catalog_page.specs.Markup.{written}
use Rattle.catalog_page.specs.Plain.{kept_of}
use Rattle.catalog_page.specs.Page.{stream_row}
use Rattle.catalog_page.proofs.stream_rows.put_streams.Given as goal

abbrev pub invariant-loop-stream : goal.invariant-loop-stream
invariant-loop-stream l = l.to.items ≡ l.fn.to.items ++ written (flat_map (stream_row (map kept_of l.catalogue.results.items)) (take l.stream-index l.catalogue.streams.items))
