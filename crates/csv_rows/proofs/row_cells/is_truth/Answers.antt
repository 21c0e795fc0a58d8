-- The value that was read.
use Rattle.std.proofs.Common.{rules}
use Rattle.rows_core.specs.declared.value.Value.TheVariants.{Bool as Truth}
use Rattle.csv_rows.proofs.row_cells.is_truth.Goals as goal

pub returns-in-Some : goal.returns-in-Some
returns-in-Some c is = record { value = Truth c.in-Some._truth; loose = search rules; spelled = c.in-Some.ensures.found; cell = c.in-Some.ensures.found }
