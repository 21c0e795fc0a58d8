-- Each left row followed by each right row that agrees with it, in the order of the left rows and, for each, of the right
-- ones: `Join` of LINQ to Objects.
use Rattle.std.specs.Prelude.{ℕ, Bool, List, ◌++◌, map}
use Rattle.std.specs.List.{list_all, filter, flat_map}
use Rattle.rows_core.specs.Value.{value_eq}
use Rattle.plan_core.specs.Columns.{Row, Rows, column_of}

-- the values of each pair of columns are equal
abbrev pub rows_agree : List (ℕ × ℕ) → Row → Row → Bool
rows_agree on left right = list_all (λ pair. value_eq (column_of left pair.0) (column_of right pair.1)) on

abbrev pub join_rows : List (ℕ × ℕ) → Rows → Rows → Rows
join_rows on lefts rights = flat_map (λ left. map (λ right. left ++ right) (filter (rows_agree on left) rights)) lefts
