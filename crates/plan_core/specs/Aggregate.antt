-- What a group gives of its rows: `Count`, `Sum`, `Min`, `Max`, `First`, `Last` and `Average` of LINQ to Objects. Sums
-- are whole numbers of any size, and an average is the floor of the exact sum by the count: this project's own.
use Rattle.std.specs.Prelude.{ℕ, ◌-◌, ℤ, pos, ◌+ℤ◌, List, [], ◌∷◌, length, map, slice_get, unwrap_or, Result, Ok, Err, if◌then◌else◌}
use Rattle.std.specs.Ordering.{is_le, is_ge}
use Rattle.rows_core.specs.declared.overflow.Overflow.{Overflow}
use Rattle.rows_core.specs.declared.value.Value.{Value}
use Rattle.rows_core.specs.declared.value.Value.TheVariants.{Int, Text, Bool}
use Rattle.rows_core.specs.Value.{value_cmp}
use Rattle.scalar_ops.specs.Division.{floor_div}
use Rattle.scalar_ops.specs.Meaning.{fits_i64, overflow}
use Rattle.plan_core.specs.declared.agg.Agg.{Agg}
use Rattle.plan_core.specs.declared.agg.Agg.TheVariants.{Count, Sum, Min, Max, First, Last, Avg}
use Rattle.plan_core.specs.Columns.{Rows, column_of, no_value}

-- a column's values, in the order of the rows
abbrev pub values_of : ℕ → Rows → List Value
values_of column rows = map (λ row. column_of row column) rows

-- a typed sum is of numbers alone
abbrev pub number_of : Value → ℤ
number_of (Int n) = n
number_of (Text t) = pos 0
number_of (Bool b) = pos 0

abbrev pub exact_sum : List Value → ℤ
exact_sum [] = pos 0
exact_sum (value ∷ values) = number_of value +ℤ exact_sum values

-- a number, overflow exactly where it is outside i64
abbrev pub whole_value : ℤ → Result Value Overflow
whole_value number = if fits_i64 number then Ok (Int number) else Err overflow

abbrev pub lesser : Value → Value → Value
lesser a b = if is_le (value_cmp a b) then a else b

abbrev pub greater : Value → Value → Value
greater a b = if is_ge (value_cmp a b) then a else b

-- a group has a row
abbrev pub least_value : List Value → Value
least_value [] = no_value
least_value (value ∷ []) = value
least_value (value ∷ next ∷ values) = lesser value (least_value (next ∷ values))

abbrev pub greatest_value : List Value → Value
greatest_value [] = no_value
greatest_value (value ∷ []) = value
greatest_value (value ∷ next ∷ values) = greater value (greatest_value (next ∷ values))

abbrev pub first_value : List Value → Value
first_value values = unwrap_or (slice_get values 0) no_value

abbrev pub last_value : List Value → Value
last_value values = unwrap_or (slice_get values (length values - 1)) no_value

abbrev pub aggregate_value : Agg → Rows → Result Value Overflow
aggregate_value Count rows = Ok (Int (pos (length rows)))
aggregate_value (Sum column) rows = whole_value (exact_sum (values_of column rows))
aggregate_value (Min column) rows = Ok (least_value (values_of column rows))
aggregate_value (Max column) rows = Ok (greatest_value (values_of column rows))
aggregate_value (First column) rows = Ok (first_value (values_of column rows))
aggregate_value (Last column) rows = Ok (last_value (values_of column rows))
aggregate_value (Avg column) rows = Ok (Int (floor_div (exact_sum (values_of column rows)) (pos (length rows))))
