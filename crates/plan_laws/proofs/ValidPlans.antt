-- A typed plan with valid literals gives valid rows on valid lists.
use Rattle.std.proofs.Common.{zero, suc, ◌≡◌, refl, subst, ℕ, ◌+◌, ◌^◌, ◌<◌, ◌≤◌, Bool, true, false, not, cond, List, [], ◌∷◌, ◌++◌, map, length, take, drop, Result, Ok, Err, Some, IfOk, arith}
use Rattle.std.specs.List.{AllByRecursion, filter, list_any}
use Rattle.std.specs.Ordering.{is_le}
use Rattle.rows_core.specs.declared.order.Key.{Key}
use Rattle.rows_core.specs.declared.overflow.Overflow.{Overflow}
use Rattle.rows_core.specs.RowOrder.{row_cmp}
use Rattle.rows_core.specs.Value.{row_eq}
use Rattle.scalar_ops.specs.Meaning.{overflow}
use Rattle.plan_core.specs.declared.agg.Agg.{Agg}
use Rattle.plan_core.specs.Aggregate.{aggregate_value}
use Rattle.plan_core.specs.Columns.{Row, Rows, columns_of}
use Rattle.plan_core.specs.Distinct.{distinct_rows}
use Rattle.plan_core.specs.ExpressionValue.{◌>>=◌, all_of}
use Rattle.plan_core.specs.Filter.{filter_rows, overflows, passes}
use Rattle.plan_core.specs.Group.{keys_of, members_of, group_row, group_rows}
use Rattle.plan_core.specs.Join.{join_rows, rows_agree}
use Rattle.plan_core.specs.Literals.{HaveCells, HasValidLiterals}
use Rattle.plan_core.specs.MachineTime.{row_count, rows_given, rows_taken_in, machine_time}
use Rattle.plan_core.specs.PlainExpr.{PlainExpr}
use Rattle.plan_core.specs.PlainPlan.{PlainPlan, Scan, Filter, Project, Distinct, Group, Join, Concat, Order, leaf_count}
use Rattle.plan_core.specs.PlanMeaning.{plan_meaning}
use Rattle.plan_core.specs.PlanTyping.{Kinds, plan_kinds, filter_kinds, project_kinds, group_kinds, join_kinds, concat_kinds, order_kinds, is_empty}
use Rattle.plan_core.specs.Project.{column_value, project_row, project_rows}
use Rattle.plan_core.specs.StableOrder.{insert_row, order_rows}
use Rattle.plan_core.proofs.ValueKinds.{unless_some}
use Rattle.plan_laws.specs.ValidRows.{IsValid, IsValidRow, AreValidRows, AreValidLists}
use Rattle.plan_laws.proofs.Answers.{both_ok, both_some, each_of}
use Rattle.plan_laws.proofs.TypedPlans.{and_then}
use Rattle.plan_laws.proofs.ValidValues.{GivesCells, HasKindAndCells, valid_column, columns_there, columns_valid, aggregate_valid}

-- ---- lists

module _ {X : Type 0} (P : X → Type 0) where
  pub all-append : (xs ys : List X) → AllByRecursion P xs → AllByRecursion P ys → AllByRecursion P (xs ++ ys)
  all-append [] ys l r = r
  all-append (x ∷ xs) ys l r = (l.0, all-append xs ys l.1 r)

  pub all-filter : (p : X → Bool) (xs : List X) → AllByRecursion P xs → AllByRecursion P (filter p xs)
  all-filter p [] all = tt
  all-filter p (x ∷ xs) all = go (p x) (all-filter p xs all.1)
    where
      go : (b : Bool) → AllByRecursion P (filter p xs) → AllByRecursion P (cond b (x ∷ filter p xs) (filter p xs))
      go true rest = (all.0, rest)
      go false rest = rest

  pub all-take : (n : ℕ) (xs : List X) → AllByRecursion P xs → AllByRecursion P (take n xs)
  all-take zero xs all = tt
  all-take (suc n) [] all = tt
  all-take (suc n) (x ∷ xs) all = (all.0, all-take n xs all.1)

  pub all-drop : (n : ℕ) (xs : List X) → AllByRecursion P xs → AllByRecursion P (drop n xs)
  all-drop zero xs all = all
  all-drop (suc n) [] all = tt
  all-drop (suc n) (x ∷ xs) all = all-drop n xs all.1

  pub all-true : ((x : X) → P x) → (xs : List X) → AllByRecursion P xs
  all-true each [] = tt
  all-true each (x ∷ xs) = (each x, all-true each xs)

pub filter_shorter : {X : Type 0} (p : X → Bool) (xs : List X) → length (filter p xs) ≤ length xs
filter_shorter p [] = omega arith
filter_shorter p (x ∷ xs) = go (p x) (filter_shorter p xs)
  where
    go : (b : Bool) → length (filter p xs) ≤ length xs → length (cond b (x ∷ filter p xs) (filter p xs)) ≤ length (x ∷ xs)
    go true less = omega arith
    go false less = omega arith

-- ---- operators

filter_valid : (test : PlainExpr) (rows out : Rows) → AreValidRows rows → filter_rows test rows ≡ Ok out → AreValidRows out
filter_valid test rows out valid is = by (list_any (overflows test) rows) is
  where
    by : (b : Bool) → cond b (Err overflow) (Ok (filter (passes test) rows)) ≡ Ok out → AreValidRows out
    by true h = absurd cc
    by false h = let same : filter (passes test) rows ≡ out = cc in subst AreValidRows same (all-filter IsValidRow (passes test) rows valid)

project_valid : GivesCells → (columns : List PlainExpr) (kinds out_kinds : Kinds) (rows out : Rows) → HaveCells columns → AreValidRows rows
    → project_kinds columns kinds ≡ Some out_kinds → project_rows columns rows ≡ Ok out → AreValidRows out
project_valid cells_are columns kinds out_kinds rows out have valid there is =
    let known = columns_there kinds columns out_kinds have (unless_some (is_empty columns) _ out_kinds there) in
    each_of (project_row columns) IsValidRow IsValidRow
    (λ row r row_valid gives. each_of (λ column. column_value column row) (HasKindAndCells kinds) IsValid
    (λ e v has value. valid_column cells_are kinds row row_valid e has.1.0 v has.0 has.1.1 value) columns r known gives)
    rows out valid is

distinct_valid : (rows : Rows) → AreValidRows rows → AreValidRows (distinct_rows rows)
distinct_valid [] valid = tt
distinct_valid (first ∷ others) valid = (valid.0, all-filter IsValidRow (λ row. not (row_eq first row)) (distinct_rows others) (distinct_valid others valid.1))

all_columns_valid : (keys : List ℕ) (rows : Rows) → AreValidRows rows → AreValidRows (map (columns_of keys) rows)
all_columns_valid keys [] valid = tt
all_columns_valid keys (row ∷ rows) valid = (columns_valid row keys valid.0, all_columns_valid keys rows valid.1)

group_valid : (keys : List ℕ) (aggs : List Agg) (rows : Rows) (key out : Row) → AreValidRows rows → length rows < 2 ^ 63 → IsValidRow key
    → group_row keys aggs rows key ≡ Ok out → IsValidRow out
group_valid keys aggs rows key out valid few key_valid is =
    let members = members_of keys rows key in
    let values = both_ok (all_of (map (λ a. aggregate_value a members) aggs)) (λ values. Ok (key ++ values)) out is in
    let whole : key ++ values.0 ≡ out = let h = values.2 in cc in
    let fewer : length members < 2 ^ 63 = omega (arith, filter_shorter (λ row. row_eq key (columns_of keys row)) rows) in
    subst IsValidRow whole (all-append IsValid key values.0 key_valid
    (each_of (λ a. aggregate_value a members) (λ a. Unit {0}) IsValid
    (λ a v t gives. aggregate_valid members (all-filter IsValidRow (λ row. row_eq key (columns_of keys row)) rows valid) fewer a v gives)
    aggs values.0 (all-true (λ a. Unit {0}) (λ a. tt) aggs) values.1))

groups_valid : (keys : List ℕ) (aggs : List Agg) (rows out : Rows) → AreValidRows rows → length rows < 2 ^ 63 → group_rows keys aggs rows ≡ Ok out → AreValidRows out
groups_valid keys aggs rows out valid few is =
    each_of (group_row keys aggs rows) IsValidRow IsValidRow (λ key r key_valid gives. group_valid keys aggs rows key r valid few key_valid gives)
    (keys_of keys rows) out (distinct_valid (map (columns_of keys) rows) (all_columns_valid keys rows valid)) is

pairs_valid : (left : Row) (rights : Rows) → IsValidRow left → AreValidRows rights → AreValidRows (map (λ right. left ++ right) rights)
pairs_valid left [] l r = tt
pairs_valid left (right ∷ rights) l r = (all-append IsValid left right l r.0, pairs_valid left rights l r.1)

join_valid : (on : List (ℕ × ℕ)) (lefts rights : Rows) → AreValidRows lefts → AreValidRows rights → AreValidRows (join_rows on lefts rights)
join_valid on [] rights l r = tt
join_valid on (left ∷ lefts) rights l r =
    all-append IsValidRow (map (λ right. left ++ right) (filter (rows_agree on left) rights)) (join_rows on lefts rights)
    (pairs_valid left (filter (rows_agree on left) rights) l.0 (all-filter IsValidRow (rows_agree on left) rights r)) (join_valid on lefts rights l.1 r)

insert_valid : (keys : List Key) (row : Row) (rows : Rows) → IsValidRow row → AreValidRows rows → AreValidRows (insert_row keys row rows)
insert_valid keys row [] one all = (one, tt)
insert_valid keys row (first ∷ others) one all = go (is_le (row_cmp keys row first)) (insert_valid keys row others one all.1)
  where
    go : (b : Bool) → AreValidRows (insert_row keys row others) → AreValidRows (cond b (row ∷ first ∷ others) (first ∷ insert_row keys row others))
    go true rest = (one, all)
    go false rest = (all.0, rest)

order_valid : (keys : List Key) (rows : Rows) → AreValidRows rows → AreValidRows (order_rows keys rows)
order_valid keys [] valid = tt
order_valid keys (row ∷ rows) valid = insert_valid keys row (order_rows keys rows) valid.0 (order_valid keys rows valid.1)

-- ---- plans

-- what an input gives, and what it takes in itself, is below what the plan takes in
pub record IsBelow (child : PlainPlan) (lists : List Rows) (bound : ℕ) : Type 0 where
  pub time : machine_time child lists < bound
  pub given : rows_given child lists < bound

pub input_below : (child : PlainPlan) (lists : List Rows) (bound : ℕ) → 1 + (rows_given child lists + rows_taken_in child lists) < bound → IsBelow child lists bound
input_below child lists bound below = record { time = omega arith; given = omega arith }

pub inputs_below : (left right : PlainPlan) (lefts rights : List Rows) (bound : ℕ)
    → 1 + (rows_given left lefts + rows_taken_in left lefts + (rows_given right rights + rows_taken_in right rights)) < bound
    → IsBelow left lefts bound × IsBelow right rights bound
inputs_below left right lefts rights bound below = (record { time = omega arith; given = omega arith }, record { time = omega arith; given = omega arith })

pub count_of : (r : Result Rows Overflow) (rows : Rows) (bound : ℕ) → r ≡ Ok rows → row_count r < bound → length rows < bound
count_of r rows bound is below = subst (λ (x : Result Rows Overflow). row_count x < bound) is below

module _ (cells_are : GivesCells) (schemas : List Kinds) where
  pub gives_valid : (plan : PlainPlan) (kinds : Kinds) (lists : List Rows) (rows : Rows) → plan_kinds schemas plan ≡ Some kinds → HasValidLiterals plan
      → AreValidLists lists → machine_time plan lists < 2 ^ 63 → plan_meaning plan lists ≡ Ok rows → AreValidRows rows
  gives_valid (Scan stream) kinds [] rows there literals valid time is = let same : [] ≡ rows = cc in subst AreValidRows same tt
  gives_valid (Scan stream) kinds (list ∷ lists) rows there literals valid time is = let same : list ≡ rows = cc in subst AreValidRows same valid.0
  gives_valid (Filter child test) kinds lists rows there literals valid time is =
      let k = and_then (filter_kinds test) (plan_kinds schemas child) kinds there in
      let r = both_ok (plan_meaning child lists) (filter_rows test) rows is in
      filter_valid test r.0 rows (gives_valid child k.0 lists r.0 k.1 literals.0 valid (input_below child lists (2 ^ 63) time).time r.1) r.2
  gives_valid (Project child columns) kinds lists rows there literals valid time is =
      let k = and_then (project_kinds columns) (plan_kinds schemas child) kinds there in
      let r = both_ok (plan_meaning child lists) (project_rows columns) rows is in
      project_valid cells_are columns k.0 kinds r.0 rows literals.1 (gives_valid child k.0 lists r.0 k.1 literals.0 valid (input_below child lists (2 ^ 63) time).time r.1) k.2 r.2
  gives_valid (Distinct child) kinds lists rows there literals valid time is =
      let r = both_ok (plan_meaning child lists) (λ rows. Ok (distinct_rows rows)) rows is in
      let same : distinct_rows r.0 ≡ rows = let h = r.2 in cc in
      subst AreValidRows same (distinct_valid r.0 (gives_valid child kinds lists r.0 there literals valid (input_below child lists (2 ^ 63) time).time r.1))
  gives_valid (Group child keys aggs) kinds lists rows there literals valid time is =
      let k = and_then (group_kinds keys aggs) (plan_kinds schemas child) kinds there in
      let r = both_ok (plan_meaning child lists) (group_rows keys aggs) rows is in
      let below = input_below child lists (2 ^ 63) time in
      groups_valid keys aggs r.0 rows (gives_valid child k.0 lists r.0 k.1 literals valid below.time r.1) (count_of (plan_meaning child lists) r.0 (2 ^ 63) r.1 below.given) r.2
  gives_valid (Join left right on) kinds lists rows there literals valid time is =
      let lefts = take (leaf_count left) lists in
      let rights = drop (leaf_count left) lists in
      let k = both_some (join_kinds on) (plan_kinds schemas left) (plan_kinds schemas right) kinds there in
      let l = both_ok (plan_meaning left lefts) (λ xs. plan_meaning right rights >>= λ ys. Ok (join_rows on xs ys)) rows is in
      let r = both_ok (plan_meaning right rights) (λ ys. Ok (join_rows on l.0 ys)) rows l.2 in
      let same : join_rows on l.0 r.0 ≡ rows = let h = r.2 in cc in
      let below = inputs_below left right lefts rights (2 ^ 63) time in
      subst AreValidRows same (join_valid on l.0 r.0
      (gives_valid left k.0 lefts l.0 k.2 literals.0 (all-take AreValidRows (leaf_count left) lists valid) below.0.time l.1)
      (gives_valid right k.1 rights r.0 k.3 literals.1 (all-drop AreValidRows (leaf_count left) lists valid) below.1.time r.1))
  gives_valid (Concat left right) kinds lists rows there literals valid time is =
      let lefts = take (leaf_count left) lists in
      let rights = drop (leaf_count left) lists in
      let k = both_some concat_kinds (plan_kinds schemas left) (plan_kinds schemas right) kinds there in
      let l = both_ok (plan_meaning left lefts) (λ xs. plan_meaning right rights >>= λ ys. Ok (xs ++ ys)) rows is in
      let r = both_ok (plan_meaning right rights) (λ ys. Ok (l.0 ++ ys)) rows l.2 in
      let same : l.0 ++ r.0 ≡ rows = let h = r.2 in cc in
      let below = inputs_below left right lefts rights (2 ^ 63) time in
      subst AreValidRows same (all-append IsValidRow l.0 r.0
      (gives_valid left k.0 lefts l.0 k.2 literals.0 (all-take AreValidRows (leaf_count left) lists valid) below.0.time l.1)
      (gives_valid right k.1 rights r.0 k.3 literals.1 (all-drop AreValidRows (leaf_count left) lists valid) below.1.time r.1))
  gives_valid (Order child keys) kinds lists rows there literals valid time is =
      let k = and_then (order_kinds keys) (plan_kinds schemas child) kinds there in
      let r = both_ok (plan_meaning child lists) (λ rows. Ok (order_rows keys rows)) rows is in
      let same : order_rows keys r.0 ≡ rows = let h = r.2 in cc in
      subst AreValidRows same (order_valid keys r.0 (gives_valid child k.0 lists r.0 k.1 literals valid (input_below child lists (2 ^ 63) time).time r.1))

  pub if_valid : (plan : PlainPlan) (kinds : Kinds) (lists : List Rows) → plan_kinds schemas plan ≡ Some kinds → HasValidLiterals plan
      → AreValidLists lists → machine_time plan lists < 2 ^ 63 → IfOk (plan_meaning plan lists) AreValidRows
  if_valid plan kinds lists there literals valid time = by (plan_meaning plan lists) (λ rows. gives_valid plan kinds lists rows there literals valid time)
    where
      by : (r : Result Rows Overflow) → ((rows : Rows) → r ≡ Ok rows → AreValidRows rows) → IfOk r AreValidRows
      by (Ok rows) h = h rows refl
      by (Err e) h = tt
