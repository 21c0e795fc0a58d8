-- The fields so far are spelled up to the rest.
use Rattle.std.proofs.Common.{◌≡◌, ◌++◌, take}
use Rattle.rows_core.specs.Schema.{kinds_of}
use Rattle.row_text.specs.RowSpelling.{more_spelling, IsLooseRow}
use Rattle.row_text.specs.Fields.{values_of, Ends}
use Rattle.row_text.proofs.read.more_fields.Given as goal

abbrev pub invariant-loop-column : goal.invariant-loop-column
invariant-loop-column l =
    record { row : IsLooseRow (kinds_of (take l.column-index l.columns)) (values_of l.fields.items); spelling : l.bytes ≡ more_spelling (values_of l.fields.items) ++ l.rest; ends : Ends l.rest }
