-- By induction on the plan.
use Rattle.std.proofs.Common.{◌≡◌, refl, ℕ, ◌+◌, List, [], ◌∷◌, ◌++◌, take, drop, Result, arith}
use Rattle.std.specs.List.{sum_by}
use Rattle.std.proofs.lemmas.List.Sums.{sum_by-append}
use Rattle.rows_core.specs.declared.overflow.Overflow.{Overflow}
use Rattle.plan_core.specs.Columns.{Rows}
use Rattle.plan_core.specs.MachineTime.{row_count, rows_taken_in, meanings_below}
use Rattle.plan_core.specs.PlainPlan.{PlainPlan, Scan, Filter, Project, Distinct, Group, Join, Concat, Order, leaf_count}
use Rattle.plan_core.specs.PlanMeaning.{plan_meaning}
use Rattle.plan_core.proofs.laws.rows_taken_in_are_those_below.Goals as goal

input : (given : Result Rows Overflow) (n : ℕ) (others : List (Result Rows Overflow)) → n ≡ sum_by row_count others
    → row_count given + n ≡ sum_by row_count (given ∷ others)
input given n others e =
    let front : sum_by row_count (given ∷ others) ≡ 0 + row_count given + sum_by row_count others = sum_by-append row_count (given ∷ []) others in
    omega arith

both : (m n : ℕ) (lefts rights : List (Result Rows Overflow)) → m ≡ sum_by row_count lefts → n ≡ sum_by row_count rights
    → m + n ≡ sum_by row_count (lefts ++ rights)
both m n lefts rights e f =
    let all : sum_by row_count (lefts ++ rights) ≡ sum_by row_count lefts + sum_by row_count rights = sum_by-append row_count lefts rights in
    omega arith

below : (plan : PlainPlan) (lists : List Rows) → rows_taken_in plan lists ≡ sum_by row_count (meanings_below plan lists)
below (Scan stream) lists = refl
below (Filter child test) lists = input (plan_meaning child lists) _ (meanings_below child lists) (below child lists)
below (Project child columns) lists = input (plan_meaning child lists) _ (meanings_below child lists) (below child lists)
below (Distinct child) lists = input (plan_meaning child lists) _ (meanings_below child lists) (below child lists)
below (Group child keys aggs) lists = input (plan_meaning child lists) _ (meanings_below child lists) (below child lists)
below (Join left right on) lists =
    let lefts = take (leaf_count left) lists in
    let rights = drop (leaf_count left) lists in
    both _ _ (plan_meaning left lefts ∷ meanings_below left lefts) (plan_meaning right rights ∷ meanings_below right rights)
    (input (plan_meaning left lefts) _ (meanings_below left lefts) (below left lefts))
    (input (plan_meaning right rights) _ (meanings_below right rights) (below right rights))
below (Concat left right) lists =
    let lefts = take (leaf_count left) lists in
    let rights = drop (leaf_count left) lists in
    both _ _ (plan_meaning left lefts ∷ meanings_below left lefts) (plan_meaning right rights ∷ meanings_below right rights)
    (input (plan_meaning left lefts) _ (meanings_below left lefts) (below left lefts))
    (input (plan_meaning right rights) _ (meanings_below right rights) (below right rights))
below (Order child keys) lists = input (plan_meaning child lists) _ (meanings_below child lists) (below child lists)

pub returns : goal.returns
returns c = below
