-- The rows so far are of the results so far.
use Rattle.std.proofs.Common.{◌≡◌, ◌++◌, map, take}
use Rattle.catalog_page.specs.Markup.{written}
use Rattle.catalog_page.specs.Page.{result_rows}
use Rattle.catalog_page.specs.Plain.{kept_of}
use Rattle.catalog_page.proofs.result_rows.put_results.Given as goal

abbrev pub invariant-loop-kept : goal.invariant-loop-kept
invariant-loop-kept l = record {
  rows : l.to.items ≡ l.fn.to.items
      ++ written (result_rows l.catalogue.streams.items l.programs l.catalogue.tick 1 (map kept_of (take l.kept-index l.catalogue.results.items)));
  counted : l.before ≡ l.kept-index;
}
