-- The groups of rows with equal key columns, in the order in which their keys first occur: `GroupBy` of LINQ to Objects.
-- Each gives its key and then its aggregates.
use Rattle.std.specs.Prelude.{ℕ, List, ◌++◌, map, Result, Ok}
use Rattle.std.specs.List.{filter}
use Rattle.rows_core.specs.declared.overflow.Overflow.{Overflow}
use Rattle.plan_core.specs.declared.agg.Agg.{Agg}
use Rattle.rows_core.specs.Value.{row_eq}
use Rattle.plan_core.specs.Columns.{Row, Rows, columns_of}
use Rattle.plan_core.specs.Distinct.{distinct_rows}
use Rattle.plan_core.specs.ExpressionValue.{◌>>=◌, all_of}
use Rattle.plan_core.specs.Aggregate.{aggregate_value}

-- the keys of the rows, each once, in the order in which they first occur
abbrev pub keys_of : List ℕ → Rows → Rows
keys_of keys rows = distinct_rows (map (columns_of keys) rows)

-- the rows with this key, in their order
abbrev pub members_of : List ℕ → Rows → Row → Rows
members_of keys rows key = filter (λ row. row_eq key (columns_of keys row)) rows

-- the key, and then each aggregate of the rows with this key
abbrev pub group_row : List ℕ → List Agg → Rows → Row → Result Row Overflow
group_row keys aggs rows key = do
  values ← all_of (map (λ agg. aggregate_value agg (members_of keys rows key)) aggs)
  Ok (key ++ values)

abbrev pub group_rows : List ℕ → List Agg → Rows → Result Rows Overflow
group_rows keys aggs rows = all_of (map (group_row keys aggs rows) (keys_of keys rows))
