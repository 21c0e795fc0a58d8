-- The columns of rows.
use Rattle.std.specs.Prelude.{ℕ, pos, List, map, slice_get, unwrap_or}
use Rattle.rows_core.specs.declared.value.Value.{Value}
use Rattle.rows_core.specs.declared.value.Value.TheVariants.{Int}

abbrev pub Row : Type 0
Row = List Value

abbrev pub Rows : Type 0
Rows = List Row

-- what stands where a column isn't there: a typed plan names no such column
abbrev pub no_value : Value
no_value = Int (pos 0)

-- the value of a column, counted from 0
abbrev pub column_of : Row → ℕ → Value
column_of row column = unwrap_or (slice_get row column) no_value

-- the values of these columns of a row
abbrev pub columns_of : List ℕ → Row → Row
columns_of columns row = map (column_of row) columns
