-- A plan with a typing has at most 32 columns, and so many values each of its rows.
use Rattle.std.proofs.Common.{◌≡◌, ◌+◌, ◌≤◌, ℕ, Bool, true, false, cond, ◌||◌, List, [], ◌∷◌, ◌++◌, length, map, Option, None, Some, Ok, Err, IsOk, refl, sym, ap, subst, unwrap_or, slice_get, length-append, arith}
use Rattle.std.proofs.lemmas.Bool.{false≢true, or_parts}
use Rattle.std.proofs.lemmas.Bool.Decides.{nat_tests}
use Rattle.std.proofs.lemmas.List.{length-map}
use Rattle.std.specs.List.{AllByRecursion, list_all}
use Rattle.std.proofs.lemmas.List.Elements.{All-from_recursion, recursion_from_All}
use Rattle.std.proofs.lemmas.Option.{cond_some}
use Rattle.rows_core.specs.Value.{kind_of}
use Rattle.plan_core.specs.declared.refusal.PlanRefusal.TheVariants.{TooMany}
use Rattle.plan_core.specs.PlainPlan.{PlainPlan, Scan, Filter, Project, Distinct, Group, Join, Concat, Order}
use Rattle.plan_core.specs.PlanTyping.{Kinds, all_there, absent_stream, plan_typing, is_empty, column_kind_of, agg_kind, filter_kinds, project_kinds, group_kinds, join_kinds, concat_kinds, order_kinds, plan_kinds, column_count, is_above_limit, has_too_many, present_or, typed_or}
use Rattle.plan_core.specs.Columns.{Rows}
use Rattle.plan_core.specs.TypedRows.{HaveKinds}
use Rattle.plan_core.proofs.ValueKinds.{unless_some}
use Rattle.plan_laws.specs.PlanShape.{kinds_given}
use Rattle.plan_laws.proofs.Answers.{both_some, there_front}
use Rattle.plan_laws.proofs.TypedOperators.{filter_same_kinds, join_kinds_are, concat_kinds_are}
use Rattle.plan_laws.proofs.TypedPlans.{and_then}
use Rattle.result_ops.specs.Fitting.{FitRows}
use Rattle.folder.proofs.GrownStreams.{kinds-of-typed}
use Rattle.work_run.specs.Ends.{HaveFewValues}

few : (n : ℕ) → is_above_limit n ≡ false → n ≤ 32
few n h = grind (arith, nat_tests)

all_there-length : {A : Type 0} (xs : List (Option A)) (ys : List A) → all_there xs ≡ Some ys → length ys ≡ length xs
all_there-length [] ys e = let same : [] ≡ ys = cc in ap length (sym same)
all_there-length (x ∷ xs) ys e =
    let front = there_front x xs ys e in
    omega (arith, ap length (sym front.4), all_there-length xs front.1 front.3)

module _ (schemas : List Kinds) where
  -- the columns of a plan that gives these kinds
  counted : (plan : PlainPlan) (k : Kinds) → plan_kinds schemas plan ≡ Some k → column_count schemas plan ≡ length k
  counted plan k e = ap (λ o. length (unwrap_or o [])) e

  pub few_kinds : (plan : PlainPlan) (k : Kinds) → plan_kinds schemas plan ≡ Some k → has_too_many schemas plan ≡ false → length k ≤ 32
  few_kinds (Scan stream) k e h = omega (arith, counted (Scan stream) k e, few (column_count schemas (Scan stream)) h)
  few_kinds (Filter child test) k e h =
      let j = and_then (filter_kinds test) (plan_kinds schemas child) k e in
      omega (arith, few_kinds child j.0 j.1 h, ap length (filter_same_kinds test j.0 k j.2))
  few_kinds (Project child columns) k e h =
      let j = and_then (project_kinds columns) (plan_kinds schemas child) k e in
      let all = all_there-length (map (column_kind_of j.0) columns) k (unless_some (is_empty columns) _ k j.2) in
      omega (arith, few (length columns) (or_parts (is_above_limit (length columns)) (has_too_many schemas child) h).0, all, length-map columns (column_kind_of j.0))
  few_kinds (Distinct child) k e h = few_kinds child k e h
  few_kinds (Group child keys aggs) k e h =
      let j = and_then (group_kinds keys aggs) (plan_kinds schemas child) k e in
      let both = both_some (λ key_kinds agg_kinds. Some (key_kinds ++ agg_kinds)) (all_there (map (slice_get j.0) keys)) (all_there (map (agg_kind j.0) aggs)) k (unless_some (is_empty keys || is_empty aggs) _ k j.2) in
      let same : both.0 ++ both.1 ≡ k = let is = both.4 in cc in
      omega (
        arith,
        few (length keys + length aggs) (or_parts (is_above_limit (length keys + length aggs)) (has_too_many schemas child) h).0,
        ap length same,
        length-append both.0 both.1,
        all_there-length (map (slice_get j.0) keys) both.0 both.2,
        all_there-length (map (agg_kind j.0) aggs) both.1 both.3,
        length-map keys (slice_get j.0),
        length-map aggs (agg_kind j.0),
      )
  few_kinds (Join left right on) k e h =
      let both = both_some (join_kinds on) (plan_kinds schemas left) (plan_kinds schemas right) k e in
      let columns = is_above_limit (column_count schemas left + column_count schemas right) in
      let three = or_parts (columns || is_above_limit (length on) || has_too_many schemas left) (has_too_many schemas right) h in
      let two = or_parts (columns || is_above_limit (length on)) (has_too_many schemas left) three.0 in
      let one = or_parts columns (is_above_limit (length on)) two.0 in
      omega (arith, few (column_count schemas left + column_count schemas right) one.0, counted left both.0 both.2, counted right both.1 both.3, ap length (join_kinds_are on both.0 both.1 k both.4), length-append both.0 both.1)
  few_kinds (Concat left right) k e h =
      let both = both_some concat_kinds (plan_kinds schemas left) (plan_kinds schemas right) k e in
      omega (arith, few_kinds left both.0 both.2 (or_parts (has_too_many schemas left) (has_too_many schemas right) h).0, ap length (concat_kinds_are both.0 both.1 k both.4).0)
  few_kinds (Order child keys) k e h =
      let j = and_then (order_kinds keys) (plan_kinds schemas child) k e in
      let same : j.0 ≡ k = (cond_some (list_all _ keys) j.0 k (unless_some (is_empty keys) _ k j.2)).1 in
      omega (arith, few_kinds child j.0 j.1 (or_parts (is_above_limit (length keys)) (has_too_many schemas child) h).1, ap length same)

-- it isn't refused for its columns
not_many : (absent : Option ℕ) (found : Option Kinds) (many : Bool) → IsOk (present_or absent (typed_or found (λ kinds. cond many (Err TooMany) (Ok kinds)))) → many ≡ false
not_many (Some stream) found many is = absurd (false≢true is)
not_many None None many is = absurd (false≢true is)
not_many None (Some kinds) true is = absurd (false≢true is)
not_many None (Some kinds) false is = refl

few_values : (kinds : Kinds) (rows : Rows) → length kinds ≤ 32 → HaveKinds kinds rows → HaveFewValues rows
few_values kinds rows few typed = All-from_recursion (λ row. length row ≤ 32) rows (by rows (recursion_from_All (λ row. map kind_of row ≡ kinds) rows typed))
  where
    by : (rows : Rows) → AllByRecursion (λ row. map kind_of row ≡ kinds) rows → AllByRecursion (λ row. length row ≤ 32) rows
    by [] typed = tt
    by (row ∷ rows) typed = (omega (arith, length-map row kind_of, ap length typed.0, few), by rows typed.1)

-- rows of the plan's kinds have few values
pub few_in_rows : (schemas : List Kinds) (plan : PlainPlan) (rows : Rows) → IsOk (plan_typing schemas plan) → FitRows schemas rows plan → HaveFewValues rows
few_in_rows schemas plan rows typed fit =
    let k = kinds-of-typed schemas plan typed in
    let few = few_kinds schemas plan k.0 k.1 (not_many (absent_stream schemas plan) (plan_kinds schemas plan) (has_too_many schemas plan) typed) in
    few_values (kinds_given schemas plan) rows (subst (λ (o : Option Kinds). length (unwrap_or o []) ≤ 32) (sym k.1) few) fit
