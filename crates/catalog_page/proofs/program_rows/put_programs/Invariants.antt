-- The rows so far are of the programs so far.
use Rattle.std.proofs.Common.{◌≡◌, ◌++◌, map, take}
use Rattle.std.specs.List.{flat_map}
use Rattle.catalog_page.specs.Markup.{written}
use Rattle.catalog_page.specs.Plain.{kept_of}
use Rattle.catalog_page.specs.Page.{program_row}
use Rattle.catalog_page.proofs.program_rows.put_programs.Given as goal

abbrev pub invariant-loop-program : goal.invariant-loop-program
invariant-loop-program l = l.to.items ≡ l.fn.to.items ++ written (flat_map (program_row (map kept_of l.catalogue.results.items)) (take l.program-index l.programs))
