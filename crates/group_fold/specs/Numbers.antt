-- Rows whose numbers can be added up.
use Rattle.std.specs.Prelude.{List}
use Rattle.std.specs.List.{AllByRecursion}
use Rattle.plan_core.specs.declared.agg.Agg.{Agg}
use Rattle.plan_core.specs.Columns.{Rows}
use Rattle.plan_laws.specs.GroupBounds.{HasNumber}

-- the numbers that the aggregates add up are in i64
abbrev pub HaveNumbers : List Agg → Rows → Type 0
HaveNumbers aggs rows = AllByRecursion (λ row. AllByRecursion (λ agg. HasNumber agg row) aggs) rows
