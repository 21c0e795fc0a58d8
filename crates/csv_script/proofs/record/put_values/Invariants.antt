-- The values of the columns so far.
use Rattle.std.proofs.Common.{◌≡◌, ◌++◌, List, take}
use Rattle.csv.specs.Records.{fields_of}
use Rattle.rows_core.specs.declared.value.Value.{Value}
use Rattle.row_text.specs.RowSpelling.{row_spelling}
use Rattle.csv_script.specs.Records.{ArePicked}
use Rattle.csv_script.proofs.record.put_values.Given as goal

abbrev pub invariant-loop-column : goal.invariant-loop-column
invariant-loop-column l =
    (row : List Value) × ArePicked (fields_of l.fields) (take l.column l.picks) row × (l.line.items ≡ l.initial.line.items ++ row_spelling row)
