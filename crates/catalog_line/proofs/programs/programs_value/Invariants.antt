-- The values so far are of the first programs.
use Rattle.std.proofs.Common.{◌≡◌, map, take}
use Rattle.serde_json.specs.View.{view}
use Rattle.catalog_line.specs.CatalogData.{program_data}
use Rattle.catalog_line.proofs.programs.programs_value.Given as goal

abbrev pub invariant-loop-program : goal.invariant-loop-program
invariant-loop-program l = map view l.items.items ≡ map program_data (take l.program-index l.programs)
