-- The machine time of a plan on one list of rows for each of its leaves: 1, and the rows that each of its operators takes
-- in. A leaf takes in none, and an input that is an overflow counts as none. The measure is this project's own.
use Rattle.std.specs.Prelude.{ℕ, ◌+◌, List, [], ◌∷◌, ◌++◌, length, take, drop, Result, Ok, Err}
use Rattle.rows_core.specs.declared.overflow.Overflow.{Overflow}
use Rattle.plan_core.specs.PlainPlan.{PlainPlan, Scan, Filter, Project, Distinct, Group, Join, Concat, Order, leaf_count}
use Rattle.plan_core.specs.Columns.{Rows}
use Rattle.plan_core.specs.PlanMeaning.{plan_meaning}

abbrev pub row_count : Result Rows Overflow → ℕ
row_count (Ok rows) = length rows
row_count (Err e) = 0

-- how many rows a plan gives
abbrev pub rows_given : PlainPlan → List Rows → ℕ
rows_given plan lists = row_count (plan_meaning plan lists)

-- the rows that the operators of a plan take in
abbrev pub rows_taken_in : PlainPlan → List Rows → ℕ
rows_taken_in (Scan stream) lists = 0
rows_taken_in (Filter child test) lists = rows_given child lists + rows_taken_in child lists
rows_taken_in (Project child columns) lists = rows_given child lists + rows_taken_in child lists
rows_taken_in (Distinct child) lists = rows_given child lists + rows_taken_in child lists
rows_taken_in (Group child keys aggs) lists = rows_given child lists + rows_taken_in child lists
rows_taken_in (Join left right on) lists =
    let lefts = take (leaf_count left) lists in
    let rights = drop (leaf_count left) lists in
    rows_given left lefts + rows_taken_in left lefts + (rows_given right rights + rows_taken_in right rights)
rows_taken_in (Concat left right) lists =
    let lefts = take (leaf_count left) lists in
    let rights = drop (leaf_count left) lists in
    rows_given left lefts + rows_taken_in left lefts + (rows_given right rights + rows_taken_in right rights)
rows_taken_in (Order child keys) lists = rows_given child lists + rows_taken_in child lists

-- the meanings of the plans below a plan: of its inputs, and of all below these
abbrev pub meanings_below : PlainPlan → List Rows → List (Result Rows Overflow)
meanings_below (Scan stream) lists = []
meanings_below (Filter child test) lists = plan_meaning child lists ∷ meanings_below child lists
meanings_below (Project child columns) lists = plan_meaning child lists ∷ meanings_below child lists
meanings_below (Distinct child) lists = plan_meaning child lists ∷ meanings_below child lists
meanings_below (Group child keys aggs) lists = plan_meaning child lists ∷ meanings_below child lists
meanings_below (Join left right on) lists =
    let lefts = take (leaf_count left) lists in
    let rights = drop (leaf_count left) lists in
    (plan_meaning left lefts ∷ meanings_below left lefts) ++ (plan_meaning right rights ∷ meanings_below right rights)
meanings_below (Concat left right) lists =
    let lefts = take (leaf_count left) lists in
    let rights = drop (leaf_count left) lists in
    (plan_meaning left lefts ∷ meanings_below left lefts) ++ (plan_meaning right rights ∷ meanings_below right rights)
meanings_below (Order child keys) lists = plan_meaning child lists ∷ meanings_below child lists

abbrev pub machine_time : PlainPlan → List Rows → ℕ
machine_time plan lists = 1 + rows_taken_in plan lists
