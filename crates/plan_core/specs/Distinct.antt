-- The first of equal rows, in the order of the rows: `Distinct` of LINQ to Objects, whose order is this project's own.
use Rattle.std.specs.Prelude.{not, [], ◌∷◌}
use Rattle.std.specs.List.{filter}
use Rattle.rows_core.specs.Value.{row_eq}
use Rattle.plan_core.specs.Columns.{Rows}

-- the first row, and of the different rows behind it those that aren't equal to it
abbrev pub distinct_rows : Rows → Rows
distinct_rows [] = []
distinct_rows (first ∷ others) = first ∷ filter (λ row. not (row_eq first row)) (distinct_rows others)
