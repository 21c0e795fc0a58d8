-- The values so far were read, and the rest of the line is shorter.
use Rattle.std.proofs.Common.{◌≡◌, [], length}
use Rattle.csv.specs.Records.{fields_of, partial_of}
use Rattle.csv_rows.proofs.RowLemmas.{IsRead}
use Rattle.csv_rows.proofs.row_cells.put_cells.Given as goal

abbrev pub invariant-loop-after : goal.invariant-loop-after
invariant-loop-after l = record { read : IsRead l.line l.rest (fields_of l.fields); clean : partial_of l.fields ≡ [] }

abbrev pub decreases-loop-after : goal.decreases-loop-after
decreases-loop-after l = length l.rest
