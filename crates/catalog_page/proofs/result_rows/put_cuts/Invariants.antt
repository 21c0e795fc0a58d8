-- The extents of the leaves so far.
use Rattle.std.proofs.Common.{◌≡◌, ◌++◌, take}
use Rattle.std.specs.List.{flat_map}
use Rattle.catalog_page.specs.Markup.{written}
use Rattle.catalog_page.specs.Page.{cut_pieces}
use Rattle.catalog_page.proofs.result_rows.put_cuts.Given as goal

abbrev pub invariant-loop-cut : goal.invariant-loop-cut
invariant-loop-cut l = l.to.items ≡ l.fn.to.items ++ written (flat_map (cut_pieces l.catalogue.streams.items) (take l.cut-index l.cuts))
