-- The cuts so far are of the values so far.
use Rattle.serde_json.specs.View.{view}
use Rattle.catalog_page.specs.Told.{cut}
use Rattle.catalog_page.proofs.ItemLoops.{HasRead}
use Rattle.catalog_page.proofs.lines.cuts_of.Given as goal

abbrev pub invariant-loop-value : goal.invariant-loop-value
invariant-loop-value l = HasRead (λ v. cut l.key (view v)) l.values l.value-index l.cuts.items
