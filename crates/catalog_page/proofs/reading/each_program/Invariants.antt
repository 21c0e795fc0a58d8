-- The programs so far are of the values so far.
use Rattle.serde_json.specs.View.{view}
use Rattle.catalog_page.specs.Told.{program_in}
use Rattle.catalog_page.proofs.ItemLoops.{HasRead}
use Rattle.catalog_page.proofs.reading.each_program.Given as goal

abbrev pub invariant-loop-value : goal.invariant-loop-value
invariant-loop-value l = HasRead (λ v. program_in (view v)) l.values l.value-index l.programs.items
