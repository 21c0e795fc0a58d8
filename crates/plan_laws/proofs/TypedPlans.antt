-- The rows that a typed plan gives have its kinds.
use Rattle.std.proofs.Common.{◌≡◌, refl, subst, ℕ, List, [], ◌∷◌, ◌++◌, map, length, take, drop, Result, Ok, Err, Option, None, Some}
use Rattle.std.specs.List.{list_all, slice_get}
use Rattle.std.specs.Cmp.{IsTotalOrder}
use Rattle.std.specs.Option.{option_and_then, IfSome}
use Rattle.std.specs.Result.{IfOk}
use Rattle.std.proofs.lemmas.List.Elements.{recursion_from_All, All-append}
use Rattle.std.proofs.lemmas.List.Sorted.{All-permutation}
use Rattle.std.proofs.lemmas.Option.{cond_some}
use Rattle.rows_core.specs.declared.order.Key.{Key}
use Rattle.rows_core.specs.declared.overflow.Overflow.{Overflow}
use Rattle.rows_core.specs.RowOrder.{row_cmp}
use Rattle.rows_core.specs.Value.{kind_of}
use Rattle.plan_core.specs.Columns.{Rows}
use Rattle.plan_core.specs.Distinct.{distinct_rows}
use Rattle.plan_core.specs.ExpressionValue.{◌>>=◌}
use Rattle.plan_core.specs.Filter.{filter_rows}
use Rattle.plan_core.specs.Group.{group_rows}
use Rattle.plan_core.specs.Join.{join_rows}
use Rattle.plan_core.specs.PlainPlan.{PlainPlan, Scan, Filter, Project, Distinct, Group, Join, Concat, Order, leaves, leaf_count}
use Rattle.plan_core.specs.PlanMeaning.{plan_meaning}
use Rattle.plan_core.specs.PlanTyping.{Kinds, plan_kinds, filter_kinds, project_kinds, group_kinds, join_kinds, concat_kinds, order_kinds, is_empty}
use Rattle.plan_core.specs.Project.{project_rows}
use Rattle.plan_core.specs.StableOrder.{order_rows}
use Rattle.plan_core.specs.TypedRows.{HaveKinds, AreOfStreams}
use Rattle.plan_core.proofs.ValueKinds.{unless_some}
use Rattle.plan_laws.proofs.Answers.{both_ok, both_some}
use Rattle.plan_laws.proofs.Insertion.{permutes}
use Rattle.plan_laws.proofs.TypedOperators.{filter_typed, filter_same_kinds, project_typed, distinct_typed, groups_typed, join_typed, join_kinds_are, concat_kinds_are}

-- the lists of the left part's leaves, and those of the right part's
pub lists_of_parts : (schemas : List Kinds) (left right : List ℕ) (lists : List Rows) → AreOfStreams schemas (left ++ right) lists
    → AreOfStreams schemas left (take (length left) lists) × AreOfStreams schemas right (drop (length left) lists)
lists_of_parts schemas [] right lists typed = (tt, typed)
lists_of_parts schemas (stream ∷ left) right [] typed = absurd typed
lists_of_parts schemas (stream ∷ left) right (rows ∷ lists) typed =
    let rest = lists_of_parts schemas left right lists typed.1 in ((typed.0, rest.0), rest.1)

pub and_then : {A B : Type 0} (f : A → Option B) (o : Option A) (y : B) → option_and_then f o ≡ Some y → (x : A) × (o ≡ Some x) × (f x ≡ Some y)
and_then f (Some x) y is = (x, refl, is)
and_then f None y is = absurd (cc)

module _ (total : (keys : List Key) → IsTotalOrder (row_cmp keys)) (schemas : List Kinds) where
  abbrev GivesTyped : PlainPlan → Type 0
  GivesTyped plan = (kinds : Kinds) (lists : List Rows) (rows : Rows) → plan_kinds schemas plan ≡ Some kinds → AreOfStreams schemas (leaves plan) lists → plan_meaning plan lists ≡ Ok rows → HaveKinds kinds rows

  pub gives_typed : (plan : PlainPlan) → GivesTyped plan
  gives_typed (Scan stream) kinds [] rows there typed is = absurd typed
  gives_typed (Scan stream) kinds (list ∷ lists) rows there typed is =
      let same : list ≡ rows = cc in
      subst (HaveKinds kinds) same (by (slice_get schemas stream) refl typed.0 there)
    where
      by : (o : Option Kinds) → slice_get schemas stream ≡ o → IfSome o (λ k. HaveKinds k list) → o ≡ Some kinds → HaveKinds kinds list
      by None e h s = absurd (cc)
      by (Some k) e h s = let same : k ≡ kinds = cc in subst (λ k. HaveKinds k list) same h
  gives_typed (Filter child test) kinds lists rows there typed is =
      let k = and_then (filter_kinds test) (plan_kinds schemas child) kinds there in
      let r = both_ok (plan_meaning child lists) (filter_rows test) rows is in
      subst (λ l. HaveKinds l rows) (filter_same_kinds test k.0 kinds k.2) (filter_typed test k.0 r.0 rows (gives_typed child k.0 lists r.0 k.1 typed r.1) r.2)
  gives_typed (Project child columns) kinds lists rows there typed is =
      let k = and_then (project_kinds columns) (plan_kinds schemas child) kinds there in
      let r = both_ok (plan_meaning child lists) (project_rows columns) rows is in
      project_typed columns k.0 kinds r.0 rows (gives_typed child k.0 lists r.0 k.1 typed r.1) k.2 r.2
  gives_typed (Distinct child) kinds lists rows there typed is =
      let r = both_ok (plan_meaning child lists) (λ rows. Ok (distinct_rows rows)) rows is in
      let same : distinct_rows r.0 ≡ rows = let h = r.2 in cc in
      subst (HaveKinds kinds) same (distinct_typed kinds r.0 (gives_typed child kinds lists r.0 there typed r.1))
  gives_typed (Group child keys aggs) kinds lists rows there typed is =
      let k = and_then (group_kinds keys aggs) (plan_kinds schemas child) kinds there in
      let r = both_ok (plan_meaning child lists) (group_rows keys aggs) rows is in
      groups_typed keys aggs k.0 kinds r.0 rows (gives_typed child k.0 lists r.0 k.1 typed r.1) k.2 r.2
  gives_typed (Join left right on) kinds lists rows there typed is =
      let k = both_some (join_kinds on) (plan_kinds schemas left) (plan_kinds schemas right) kinds there in
      let parts = lists_of_parts schemas (leaves left) (leaves right) lists typed in
      let l = both_ok (plan_meaning left (take (leaf_count left) lists)) (λ lefts. plan_meaning right (drop (leaf_count left) lists) >>= λ rights. Ok (join_rows on lefts rights)) rows is in
      let r = both_ok (plan_meaning right (drop (leaf_count left) lists)) (λ rights. Ok (join_rows on l.0 rights)) rows l.2 in
      let same : join_rows on l.0 r.0 ≡ rows = let h = r.2 in cc in
      let lefts = gives_typed left k.0 (take (leaf_count left) lists) l.0 k.2 parts.0 l.1 in
      let rights = gives_typed right k.1 (drop (leaf_count left) lists) r.0 k.3 parts.1 r.1 in
      subst (λ l. HaveKinds l rows) (join_kinds_are on k.0 k.1 kinds k.4)
      (subst (HaveKinds (k.0 ++ k.1)) same (join_typed on k.0 k.1 l.0 r.0 (recursion_from_All (λ row. map kind_of row ≡ k.0) l.0 lefts) rights))
  gives_typed (Concat left right) kinds lists rows there typed is =
      let k = both_some concat_kinds (plan_kinds schemas left) (plan_kinds schemas right) kinds there in
      let parts = lists_of_parts schemas (leaves left) (leaves right) lists typed in
      let l = both_ok (plan_meaning left (take (leaf_count left) lists)) (λ lefts. plan_meaning right (drop (leaf_count left) lists) >>= λ rights. Ok (lefts ++ rights)) rows is in
      let r = both_ok (plan_meaning right (drop (leaf_count left) lists)) (λ rights. Ok (l.0 ++ rights)) rows l.2 in
      let same : l.0 ++ r.0 ≡ rows = let h = r.2 in cc in
      let one = concat_kinds_are k.0 k.1 kinds k.4 in
      subst (HaveKinds kinds) same (All-append (λ row. map kind_of row ≡ kinds) l.0 r.0
      (subst (λ j. HaveKinds j l.0) one.0 (gives_typed left k.0 (take (leaf_count left) lists) l.0 k.2 parts.0 l.1))
      (subst (λ j. HaveKinds j r.0) one.1 (gives_typed right k.1 (drop (leaf_count left) lists) r.0 k.3 parts.1 r.1)))
  gives_typed (Order child keys) kinds lists rows there typed is =
      let k = and_then (order_kinds keys) (plan_kinds schemas child) kinds there in
      let same_kinds : k.0 ≡ kinds = (cond_some (list_all _ keys) k.0 kinds (unless_some (is_empty keys) _ kinds k.2)).1 in
      let r = both_ok (plan_meaning child lists) (λ rows. Ok (order_rows keys rows)) rows is in
      let same : order_rows keys r.0 ≡ rows = let h = r.2 in cc in
      subst (λ l. HaveKinds l rows) same_kinds (subst (HaveKinds k.0) same
      (All-permutation (λ row. map kind_of row ≡ k.0) r.0 (order_rows keys r.0) (permutes keys (total keys) r.0) (gives_typed child k.0 lists r.0 k.1 typed r.1)))

  pub if_given : (plan : PlainPlan) (kinds : Kinds) (lists : List Rows) → plan_kinds schemas plan ≡ Some kinds → AreOfStreams schemas (leaves plan) lists → IfOk (plan_meaning plan lists) (HaveKinds kinds)
  if_given plan kinds lists there typed = by (plan_meaning plan lists) (λ rows. gives_typed plan kinds lists rows there typed)
    where
      by : (r : Result Rows Overflow) → ((rows : Rows) → r ≡ Ok rows → HaveKinds kinds rows) → IfOk r (HaveKinds kinds)
      by (Ok rows) h = h rows refl
      by (Err e) h = tt
