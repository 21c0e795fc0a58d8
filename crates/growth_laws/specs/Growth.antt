-- What a plan gives behind the rows that it gave, where its lists have grown; and what is made of its result.
use Rattle.std.specs.Prelude.{◌≡◌, ℕ, ◌+◌, List, take, drop, Result, Ok, Err}
use Rattle.row_blob.specs.declared.kept.Kept.{Kept}
use Rattle.rows_core.specs.declared.overflow.Overflow.{Overflow}
use Rattle.plan_core.specs.Columns.{Rows}
use Rattle.plan_core.specs.ExpressionValue.{◌>>=◌}
use Rattle.plan_core.specs.MachineTime.{rows_taken_in}
use Rattle.plan_core.specs.PlainPlan.{PlainPlan, Filter, Project, Distinct, Group, Concat, Order, leaf_count}
use Rattle.plan_core.specs.PlanMeaning.{plan_meaning}
use Rattle.plan_laws.specs.GrowthOfRows.{Grows}
use Rattle.plan_laws.specs.KeptForm.{kept_form, rows_of_kept}

-- the rows that come behind the old ones, and how many rows more the operators take in
pub record Added : Type 0 where
  pub rows : Rows
  pub taken_in : ℕ

-- a result as it is kept, and how many rows the operators of its plan take in
pub record Made : Type 0 where
  pub kept : Kept
  pub taken_in : ℕ

abbrev pub machine_of : Made → ℕ
machine_of made = 1 + made.taken_in

-- the rows of what was made, or the overflow
abbrev pub rows_of_made : Result Made Overflow → Result Rows Overflow
rows_of_made given = do
  made ← given
  rows_of_kept made.kept

-- Where the plan gave rows before, it gives them after, and then the added ones: or it is an overflow after, where that is
-- what was added.
abbrev pub Extends : PlainPlan → List Rows → List Rows → Result Added Overflow → Type 0
Extends plan before after (Ok added) = (rows : Rows) → plan_meaning plan before ≡ Ok rows → Grows plan before after rows added.rows added.taken_in
Extends plan before after (Err e) = (rows : Rows) → plan_meaning plan before ≡ Ok rows → plan_meaning plan after ≡ Err e

-- what was made is what is kept of the plan's result on these lists, with the rows that the plan takes in; it is an overflow
-- where that is one
abbrev pub IsMade : PlainPlan → List Rows → Result Made Overflow → Type 0
IsMade plan lists (Ok made) = (kept_form plan lists ≡ Ok made.kept) × (rows_taken_in plan lists ≡ made.taken_in)
IsMade plan lists (Err e) = kept_form plan lists ≡ Err e

-- what the definitions give of the whole lists
abbrev pub whole_made : PlainPlan → List Rows → Result Made Overflow
whole_made plan lists = do
  form ← kept_form plan lists
  Ok (record { kept = form; taken_in = rows_taken_in plan lists })

-- what holds of the only input, before and after, or of the right one of a concatenation whose left lists are unchanged
abbrev pub OfGrownInput : (PlainPlan → List Rows → List Rows → Type 0) → PlainPlan → List Rows → List Rows → Type 0
OfGrownInput P (Filter child test) before after = P child before after
OfGrownInput P (Project child columns) before after = P child before after
OfGrownInput P (Distinct child) before after = P child before after
OfGrownInput P (Group child keys aggs) before after = P child before after
OfGrownInput P (Order child keys) before after = P child before after
OfGrownInput P (Concat left right) before after =
    (take (leaf_count left) before ≡ take (leaf_count left) after) × P right (drop (leaf_count left) before) (drop (leaf_count left) after)
OfGrownInput P _ before after = ⊥

-- the same where what is added is the operator's of the added rows alone
abbrev pub OfPassedInput : (PlainPlan → List Rows → List Rows → Type 0) → PlainPlan → List Rows → List Rows → Type 0
OfPassedInput P (Filter child test) before after = P child before after
OfPassedInput P (Project child columns) before after = P child before after
OfPassedInput P (Concat left right) before after =
    (take (leaf_count left) before ≡ take (leaf_count left) after) × P right (drop (leaf_count left) before) (drop (leaf_count left) after)
OfPassedInput P _ before after = ⊥
