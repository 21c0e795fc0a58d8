-- The results so far are of the values so far.
use Rattle.std.proofs.Common.{◌+◌, map}
use Rattle.catalog_page.specs.Plain.{kept_of}
use Rattle.serde_json.specs.View.{view}
use Rattle.catalog_page.specs.Told.{kept_in}
use Rattle.catalog_page.proofs.ItemLoops.{HasRead}
use Rattle.catalog_page.proofs.reading.each_result.Given as goal

abbrev pub invariant-loop-value : goal.invariant-loop-value
invariant-loop-value l = HasRead (λ v. kept_in (l.tick + 1) (view v)) l.values l.value-index (map kept_of l.results.items)
