-- The rows sorted by keys, those with equal keys in the order that they had: `OrderBy` of LINQ to Objects, a stable sort.
use Rattle.std.specs.Prelude.{List, [], ◌∷◌, if◌then◌else◌, IsPermutation, IsSorted}
use Rattle.std.specs.List.Sorted.{IsStable}
use Rattle.std.specs.Ordering.{is_le}
use Rattle.rows_core.specs.declared.order.Key.{Key}
use Rattle.rows_core.specs.RowOrder.{row_cmp}
use Rattle.plan_core.specs.Columns.{Row, Rows}

-- `sorted` has the rows of `rows`, doesn't fall by the keys, and keeps the order of rows with equal keys
pub record IsOrderedBy (keys : List Key) (rows sorted : Rows) : Type 0 where
  pub permutation : IsPermutation rows sorted
  pub ascends : IsSorted (row_cmp keys) sorted
  pub stable : IsStable (row_cmp keys) rows sorted

-- before the first row that isn't below it
abbrev pub insert_row : List Key → Row → Rows → Rows
insert_row keys row [] = row ∷ []
insert_row keys row (first ∷ others) =
    if is_le (row_cmp keys row first) then row ∷ first ∷ others else first ∷ insert_row keys row others

-- the one list that is ordered so
abbrev pub order_rows : List Key → Rows → Rows
order_rows keys [] = []
order_rows keys (row ∷ rows) = insert_row keys row (order_rows keys rows)
