-- What an operator gives of one list of rows and then another one, and what a plan gives and takes in on longer lists.
use Rattle.std.specs.Prelude.{◌≡◌, ℕ, ◌+◌, Bool, List, ◌++◌, not, Result, Ok}
use Rattle.std.specs.List.{list_any, filter}
use Rattle.rows_core.specs.declared.overflow.Overflow.{Overflow}
use Rattle.rows_core.specs.Value.{row_eq}
use Rattle.plan_core.specs.Columns.{Row, Rows}
use Rattle.plan_core.specs.Distinct.{distinct_rows}
use Rattle.plan_core.specs.ExpressionValue.{◌>>=◌}
use Rattle.plan_core.specs.MachineTime.{rows_taken_in}
use Rattle.plan_core.specs.PlainPlan.{PlainPlan}
use Rattle.plan_core.specs.PlanMeaning.{plan_meaning}

-- one list and then the other, an overflow where either is one
abbrev pub joined : Result Rows Overflow → Result Rows Overflow → Result Rows Overflow
joined old new = do
  olds ← old
  news ← new
  Ok (olds ++ news)

-- one of the rows is equal to this one
abbrev pub has_row : Rows → Row → Bool
has_row rows row = list_any (row_eq row) rows

-- the first of equal rows, without those that the old rows have
abbrev pub new_rows : Rows → Rows → Rows
new_rows old rows = filter (λ row. not (has_row old row)) (distinct_rows rows)

-- on the lists before, a plan gave the old rows; on those after, it gives these and then the new ones, and its operators
-- take in so many rows more
pub record Grows (plan : PlainPlan) (before after : List Rows) (old new : Rows) (more : ℕ) : Type 0 where
  pub gave : plan_meaning plan before ≡ Ok old
  pub gives : plan_meaning plan after ≡ Ok (old ++ new)
  pub takes_in : rows_taken_in plan after ≡ rows_taken_in plan before + more
