-- The value that was read.
use Rattle.std.proofs.Common.{rules}
use Rattle.rows_core.specs.declared.value.Value.TheVariants.{Int}
use Rattle.csv_rows.proofs.row_cells.is_number.Goals as goal

pub returns-in-Some : goal.returns-in-Some
returns-in-Some c is = record { value = Int c.in-Some._number; loose = search rules; spelled = c.in-Some.ensures.found; cell = c.in-Some.ensures.found }
