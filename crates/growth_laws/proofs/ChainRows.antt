-- Chains on the rows of one list and then another one.
use Rattle.std.proofs.Common.{◌≡◌, refl, sym, ap, ◌∙◌, ◌+◌, [], ◌∷◌, ◌++◌, length-append, Result, Ok, Err, arith}
use Rattle.rows_core.specs.declared.overflow.Overflow.{Overflow}
use Rattle.plan_core.specs.Columns.{Rows}
use Rattle.plan_core.specs.ExpressionValue.{◌>>=◌}
use Rattle.plan_core.specs.Filter.{filter_rows}
use Rattle.plan_core.specs.MachineTime.{row_count, rows_given, rows_taken_in}
use Rattle.plan_core.specs.PlainPlan.{PlainPlan, Scan, Filter, Project, Distinct, Group, Join, Concat, Order}
use Rattle.plan_core.specs.PlanMeaning.{plan_meaning}
use Rattle.plan_core.specs.Project.{project_rows}
use Rattle.plan_laws.specs.GrowthOfRows.{joined}
use Rattle.plan_laws.proofs.JoinedRows.{filter_joined, project_joined}
use Rattle.growth_laws.specs.Chains.{IsChain}
use Rattle.growth_laws.proofs.AddedRows.{gave_first}

-- an operator that gives of two lists what it gives of each
module _ (f : Rows → Result Rows Overflow) (passes : (a b : Rows) → f (a ++ b) ≡ joined (f a) (f b)) where
  second_fails : (m : Result Rows Overflow) (e : Overflow) → Err e ≡ joined m (Err e)
  second_fails (Ok x) e = refl
  second_fails (Err g) e = refl

  one_by_one : (m n : Result Rows Overflow) → (joined m n >>= f) ≡ joined (m >>= f) (n >>= f)
  one_by_one (Ok x) (Ok y) = passes x y
  one_by_one (Ok x) (Err e) = second_fails (f x) e
  one_by_one (Err e) n = refl

pub chain_joined : (plan : PlainPlan) → IsChain plan → (a b : Rows) → plan_meaning plan ((a ++ b) ∷ []) ≡ joined (plan_meaning plan (a ∷ [])) (plan_meaning plan (b ∷ []))
chain_joined (Scan stream) is a b = refl
chain_joined (Filter child test) is a b =
    ap (λ m. m >>= filter_rows test) (chain_joined child is a b) ∙ one_by_one (filter_rows test) (filter_joined test) (plan_meaning child (a ∷ [])) (plan_meaning child (b ∷ []))
chain_joined (Project child columns) is a b =
    ap (λ m. m >>= project_rows columns) (chain_joined child is a b) ∙ one_by_one (project_rows columns) (project_joined columns) (plan_meaning child (a ∷ [])) (plan_meaning child (b ∷ []))
chain_joined (Distinct child) is a b = absurd is
chain_joined (Group child keys aggs) is a b = absurd is
chain_joined (Join left right on) is a b = absurd is
chain_joined (Concat left right) is a b = absurd is
chain_joined (Order child keys) is a b = absurd is

-- where there is no overflow, the rows of both are counted
pub joined_counted : (m n : Result Rows Overflow) (rows : Rows) → joined m n ≡ Ok rows → row_count (joined m n) ≡ row_count m + row_count n
joined_counted (Ok x) (Ok y) rows is = length-append x y
joined_counted (Ok x) (Err e) rows is = absurd (cc)
joined_counted (Err e) n rows is = absurd (cc)

module _ (child : PlainPlan) (a b : Rows) (joins : plan_meaning child ((a ++ b) ∷ []) ≡ joined (plan_meaning child (a ∷ [])) (plan_meaning child (b ∷ []))) where
  over_child : (rows : Rows) → plan_meaning child ((a ++ b) ∷ []) ≡ Ok rows → rows_taken_in child ((a ++ b) ∷ []) ≡ rows_taken_in child (a ∷ []) + rows_taken_in child (b ∷ [])
      → rows_given child ((a ++ b) ∷ []) + rows_taken_in child ((a ++ b) ∷ []) ≡ rows_given child (a ∷ []) + rows_taken_in child (a ∷ []) + (rows_given child (b ∷ []) + rows_taken_in child (b ∷ []))
  over_child rows gave taken =
      let given : rows_given child ((a ++ b) ∷ []) ≡ rows_given child (a ∷ []) + rows_given child (b ∷ []) =
      ap row_count joins ∙ joined_counted (plan_meaning child (a ∷ [])) (plan_meaning child (b ∷ [])) rows (sym joins ∙ gave) in
      omega (arith, given, taken)

pub chain_takes_in : (plan : PlainPlan) → IsChain plan → (a b rows : Rows) → plan_meaning plan ((a ++ b) ∷ []) ≡ Ok rows
    → rows_taken_in plan ((a ++ b) ∷ []) ≡ rows_taken_in plan (a ∷ []) + rows_taken_in plan (b ∷ [])
chain_takes_in (Scan stream) is a b rows gave = omega arith
chain_takes_in (Filter child test) is a b rows gave =
    let below = gave_first (plan_meaning child ((a ++ b) ∷ [])) (filter_rows test) rows gave in
    over_child child a b (chain_joined child is a b) below.0 below.1 (chain_takes_in child is a b below.0 below.1)
chain_takes_in (Project child columns) is a b rows gave =
    let below = gave_first (plan_meaning child ((a ++ b) ∷ [])) (project_rows columns) rows gave in
    over_child child a b (chain_joined child is a b) below.0 below.1 (chain_takes_in child is a b below.0 below.1)
chain_takes_in (Distinct child) is a b rows gave = absurd is
chain_takes_in (Group child keys aggs) is a b rows gave = absurd is
chain_takes_in (Join left right on) is a b rows gave = absurd is
chain_takes_in (Concat left right) is a b rows gave = absurd is
chain_takes_in (Order child keys) is a b rows gave = absurd is
