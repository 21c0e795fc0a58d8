-- How the rows of a plan are shown.
use Rattle.std.specs.Prelude.{◌≡◌, ℕ, List, map, codes, slice_get, Some, Ok}
use Rattle.std.specs.List.{join_by}
use Rattle.row_text.specs.RowSpelling.{row_spelling}
use Rattle.plan_core.specs.Columns.{Rows}
use Rattle.plan_core.specs.PlanMeaning.{plan_meaning}
use Rattle.plan_core.specs.TypedPlan.{TypedPlan}

-- the text has the lines of the rows that the plan means on the streams of its leaves, with ` / ` between them
pub record ShowsRows (typed : TypedPlan) (streams : List Rows) (text : List ℕ) : Type 0 where
  pub lists : List Rows
  pub named : map Some lists ≡ map (slice_get streams) typed.leaves
  pub rows : Rows
  pub gives : plan_meaning typed.plan lists ≡ Ok rows
  pub lines : text ≡ join_by row_spelling (codes " / ") rows
