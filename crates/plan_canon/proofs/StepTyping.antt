-- Each step keeps the leaves, the kinds and the limit on columns, keys and pairs.
use Rattle.std.proofs.Common.{◌≡◌, refl, sym, ap, ◌∙◌, subst, ℕ, suc, ◌+◌, Bool, true, false, ◌||◌, ◌==◌, not, cond, List, [], ◌∷◌, ◌++◌, map, length, slice_get, Option, None, Some, IfSome, Ok, Err, unwrap_or, append_assoc, length-append, arith}
use Rattle.std.specs.Option.{option_map, option_and_then}
use Rattle.std.specs.List.{list_all, find}
use Rattle.std.specs.Prelude.{nat_le}
use Rattle.plan_core.specs.declared.refusal.PlanRefusal.TheVariants.{TooMany}
use Rattle.std.specs.Bool.{Decides}
use Rattle.std.specs.Cmp.Lexicographic.{pointwise, pointwise_decides}
use Rattle.std.proofs.lemmas.Bool.{false≢true, or_from, or_parts, and_parts}
use Rattle.std.proofs.lemmas.Option.{cond_some}
use Rattle.rows_core.specs.declared.kind.Kind as column
use Rattle.rows_core.specs.declared.kind.Kind.TheVariants as column_kind
use Rattle.scalar_ops.specs.declared.cell.CellKind.{CellKind}
use Rattle.scalar_ops.specs.declared.cell.CellKind.TheVariants as kind
use Rattle.plan_core.specs.PlainExpr.{PlainExpr, Column, And}
use Rattle.plan_core.specs.PlainPlan.{PlainPlan, Scan, Filter, Project, Distinct, Group, Join, Concat, Order, leaves}
use Rattle.plan_core.specs.ExpressionKind.{expression_kind, cell_kind_of, of_both, both_truths}
use Rattle.plan_core.specs.PlanTyping.{Kinds, same_kind, is_empty, all_there, column_kind as kind_of_column, column_kind_of, is_truth, filter_kinds, project_kinds, group_kinds, join_kinds, concat_kinds, order_kinds, agg_kind, plan_kinds, column_count, has_too_many, is_above_limit, present_or, typed_or, absent_stream, plan_typing}
use Rattle.plan_laws.proofs.TypedPlans.{and_then}
use Rattle.plan_laws.proofs.Answers.{both_some}
use Rattle.plan_canon.specs.Steps.{Reaches}
use Rattle.plan_canon.specs.ExprRules.{is_true, expr_step, exprs_step}
use Rattle.plan_canon.specs.PlanRules.{width, filter_rule, may_fuse, put_in, is_column, are_columns, are_columns_from, none_repeats, may_overflow, project_none, project_rule, plan_step}
use Rattle.plan_canon.proofs.Reached.{inside, each_of, both_of, at_step, kept}
use Rattle.plan_canon.proofs.SameValues.{both, step_kind}
use Rattle.plan_canon.proofs.Fused.{NoneOverflow, all_front, kind_of_one, put_kind}

-- ---- kinds of parts

pub equal_numbers : (i j : ℕ) → (i == j) ≡ true → i ≡ j
equal_numbers i j e = grind arith

pub its_column : (i : ℕ) (e : PlainExpr) → is_column i e ≡ true → e ≡ Column i
its_column i (Column j) e = ap Column (sym (equal_numbers i j e))
its_column i _ e = absurd cc

otherwise : {A : Type 0} (b : Bool) (x : Option A) (y : A) → cond b None x ≡ Some y → (b ≡ false) × (x ≡ Some y)
otherwise true x y e = absurd cc
otherwise false x y e = (refl, e)

truth_is : (o : Option CellKind) → is_truth o ≡ true → o ≡ Some kind.Bool
truth_is (Some kind.Bool) e = refl
truth_is _ e = absurd cc

same_kind-Decides : (a b : column.Kind) → Decides (same_kind a b) (a ≡ b)
same_kind-Decides column_kind.Int column_kind.Int = (λ e. refl, λ e. refl)
same_kind-Decides column_kind.Text column_kind.Text = (λ e. refl, λ e. refl)
same_kind-Decides column_kind.Bool column_kind.Bool = (λ e. refl, λ e. refl)
same_kind-Decides _ _ = (λ e. absurd (false≢true e), λ e. cc)

pub none_overflow : (es fs : List PlainExpr) → may_fuse es fs ≡ true → NoneOverflow es
none_overflow es fs e = (and_parts (list_all (λ e. not (may_overflow e)) es) (none_repeats 0 es fs) e).0

its_kind : (k : column.Kind) → kind_of_column (cell_kind_of k) ≡ k
its_kind column_kind.Int = refl
its_kind column_kind.Text = refl
its_kind column_kind.Bool = refl

pub columns_step : (kinds : Kinds) (fs : List PlainExpr) (ks : Kinds) → all_there (map (column_kind_of kinds) fs) ≡ Some ks
    → IfSome (exprs_step fs) (λ gs. all_there (map (column_kind_of kinds) gs) ≡ Some ks)
columns_step kinds [] ks e = tt
columns_step kinds (f ∷ fs) ks e =
    let front = all_front (column_kind_of kinds f) (map (column_kind_of kinds) fs) ks e in
    let its = kind_of_one (expression_kind kinds f) front.0 front.2 in
    inside (λ x. expression_kind kinds x ≡ Some (cell_kind_of front.0)) (λ gs. all_there (map (column_kind_of kinds) gs) ≡ Some ks) (λ x. x ∷ fs) (expr_step f) _
    (λ x is. ap (λ o. all_there (o ∷ map (column_kind_of kinds) fs)) (ap (option_map kind_of_column) is ∙ ap Some (its_kind front.0) ∙ sym front.2) ∙ e)
    (step_kind kinds f (cell_kind_of front.0) its)
    (inside (λ gs. all_there (map (column_kind_of kinds) gs) ≡ Some front.1) (λ gs. all_there (map (column_kind_of kinds) gs) ≡ Some ks) (λ xs. f ∷ xs) (exprs_step fs) None
    (λ gs is. ap (λ o. all_there (o ∷ map (column_kind_of kinds) gs)) front.2 ∙ ap (option_and_then (λ others. Some (front.0 ∷ others))) is ∙ ap Some (sym front.4))
    (columns_step kinds fs front.1 front.3) tt)

pub length_step : (fs : List PlainExpr) → IfSome (exprs_step fs) (λ gs. length gs ≡ length fs)
length_step [] = tt
length_step (f ∷ fs) =
    inside (λ x. Unit {0}) (λ gs. length gs ≡ suc (length fs)) (λ x. x ∷ fs) (expr_step f) _ (λ x u. refl) (each_of (λ x. Unit {0}) (expr_step f) (λ x e. tt))
    (inside (λ gs. length gs ≡ length fs) (λ gs. length gs ≡ suc (length fs)) (λ xs. f ∷ xs) (exprs_step fs) None (λ gs is. ap suc is) (length_step fs) tt)

pub put_columns : (kinds : Kinds) (es : List PlainExpr) (ks : Kinds) → all_there (map (column_kind_of kinds) es) ≡ Some ks
    → (fs : List PlainExpr) (js : Kinds) → all_there (map (column_kind_of ks) fs) ≡ Some js → all_there (map (column_kind_of kinds) (map (put_in es) fs)) ≡ Some js
put_columns kinds es ks all [] js e = e
put_columns kinds es ks all (f ∷ fs) js e =
    let front = all_front (column_kind_of ks f) (map (column_kind_of ks) fs) js e in
    let first : column_kind_of kinds (put_in es f) ≡ Some front.0 =
    ap (option_map kind_of_column) (put_kind kinds es ks all f (cell_kind_of front.0) (kind_of_one (expression_kind ks f) front.0 front.2)) ∙ ap Some (its_kind front.0) in
    (λ i. all_there (first i ∷ map (column_kind_of kinds) (map (put_in es) fs)))
    ∙ ap (option_and_then (λ others. Some (front.0 ∷ others))) (put_columns kinds es ks all fs front.1 front.3) ∙ ap Some (sym front.4)

put_length : (es fs : List PlainExpr) → length (map (put_in es) fs) ≡ length fs
put_length es [] = refl
put_length es (f ∷ fs) = ap suc (put_length es fs)

same_empty : {A : Type 0} (xs ys : List A) → length xs ≡ length ys → is_empty ys ≡ false → is_empty xs ≡ false
same_empty xs ys same e = ap (λ n. n == 0) same ∙ e

module _ (schemas : List Kinds) where
  abbrev pub HasKinds : PlainPlan → Kinds → Type 0
  HasKinds p k = plan_kinds schemas p ≡ Some k

  -- ---- tests

  pub of_filter : (p : PlainPlan) (a : PlainExpr) (k : Kinds) → HasKinds (Filter p a) k → HasKinds p k × (expression_kind k a ≡ Some kind.Bool)
  of_filter p a k h =
      let j = and_then (filter_kinds a) (plan_kinds schemas p) k h in
      let t = cond_some (is_truth (expression_kind j.0 a)) j.0 k j.2 in
      (j.1 ∙ ap Some t.1, subst (λ l. expression_kind l a ≡ Some kind.Bool) t.1 (truth_is (expression_kind j.0 a) t.0))

  pub to_filter : (p : PlainPlan) (a : PlainExpr) (k : Kinds) → HasKinds p k → expression_kind k a ≡ Some kind.Bool → HasKinds (Filter p a) k
  to_filter p a k h t = ap (option_and_then (filter_kinds a)) h ∙ ap (λ o. cond (is_truth o) (Some k) None) t

  pub of_concat : (p q : PlainPlan) (k : Kinds) → HasKinds (Concat p q) k → HasKinds p k × HasKinds q k
  of_concat p q k h =
      let parts = both_some concat_kinds (plan_kinds schemas p) (plan_kinds schemas q) k h in
      let t = cond_some (pointwise same_kind parts.0 parts.1) parts.0 k parts.4 in
      let same = (pointwise_decides same_kind-Decides parts.0 parts.1).0 t.0 in
      (parts.2 ∙ ap Some t.1, parts.3 ∙ ap Some (sym same ∙ t.1))

  pub to_concat : (p q : PlainPlan) (k : Kinds) → HasKinds p k → HasKinds q k → HasKinds (Concat p q) k
  to_concat p q k hp hq = (λ i. of_both concat_kinds (hp i) (hq i)) ∙ ap (λ t. cond t (Some k) None) ((pointwise_decides same_kind-Decides k k).1 refl)

  pub of_order : (p : PlainPlan) (keys : List _) (k : Kinds) → HasKinds (Order p keys) k → HasKinds p k
  of_order p keys k h =
      let j = and_then (order_kinds keys) (plan_kinds schemas p) k h in
      let t = otherwise (is_empty keys) _ k j.2 in
      j.1 ∙ ap Some (cond_some _ j.0 k t.1).1

  pub through : (f : Kinds → Option Kinds) (p q : PlainPlan) (k : Kinds) → option_and_then f (plan_kinds schemas p) ≡ Some k → ((j : Kinds) → HasKinds p j → HasKinds q j) → option_and_then f (plan_kinds schemas q) ≡ Some k
  through f p q k h same = let j = and_then f (plan_kinds schemas p) k h in ap (option_and_then f) (same j.0 j.1) ∙ j.2

  filter_rule_kinds : (p : PlainPlan) (a : PlainExpr) (k : Kinds) → HasKinds (Filter p a) k → IfSome (filter_rule p a) (λ q. HasKinds q k)
  filter_rule_kinds (Filter p b) a k h =
      let outer = of_filter (Filter p b) a k h in
      let inner = of_filter p b k outer.0 in
      to_filter p (And b a) k inner.0 (both k both_truths inner.1 outer.1)
  filter_rule_kinds (Concat p q) a k h =
      let outer = of_filter (Concat p q) a k h in
      let parts = of_concat p q k outer.0 in
      to_concat (Filter p a) (Filter q a) k (to_filter p a k parts.0 outer.1) (to_filter q a k parts.1 outer.1)
  filter_rule_kinds (Order p keys) a k h =
      let outer = of_filter (Order p keys) a k h in
      through (order_kinds keys) p (Filter p a) k outer.0
      (λ j its.
      let same : j ≡ k = let e = sym its ∙ of_order p keys k outer.0 in cc in
      to_filter p a j its (subst (λ l. expression_kind l a ≡ Some kind.Bool) (sym same) outer.1))
  filter_rule_kinds (Distinct p) a k h = h
  filter_rule_kinds p a k h = by (is_true a)
    where
      by : (t : Bool) → IfSome (cond t (Some p) None) (λ q. HasKinds q k)
      by true = (of_filter p a k h).0
      by false = tt

  -- ---- columns

  pub of_project : (p : PlainPlan) (fs : List PlainExpr) (k : Kinds) → HasKinds (Project p fs) k
      → (j : Kinds) × HasKinds p j × (is_empty fs ≡ false) × (all_there (map (column_kind_of j) fs) ≡ Some k)
  of_project p fs k h =
      let j = and_then (project_kinds fs) (plan_kinds schemas p) k h in
      let t = otherwise (is_empty fs) (all_there (map (column_kind_of j.0) fs)) k j.2 in
      (j.0, j.1, t.0, t.1)

  pub to_project : (p : PlainPlan) (fs : List PlainExpr) (j k : Kinds) → HasKinds p j → is_empty fs ≡ false → all_there (map (column_kind_of j) fs) ≡ Some k → HasKinds (Project p fs) k
  to_project p fs j k h some all = ap (option_and_then (project_kinds fs)) h ∙ ap (λ t. cond t None (all_there (map (column_kind_of j) fs))) some ∙ all

  -- columns over columns have a typing as columns
  fused_kinds : (p : PlainPlan) (es fs : List PlainExpr) (k : Kinds) → HasKinds (Project (Project p es) fs) k → HasKinds (Project p (map (put_in es) fs)) k
  fused_kinds p es fs k h =
      let outer = of_project (Project p es) fs k h in
      let inner = of_project p es outer.0 outer.1 in
      to_project p (map (put_in es) fs) inner.0 k inner.1 (same_empty (map (put_in es) fs) fs (put_length es fs) outer.2)
      (put_columns inner.0 es outer.0 inner.3 fs k outer.3)

  -- all columns in order have the kinds of the plan
  one_of_them : (before after : Kinds) (k : column.Kind) → slice_get (before ++ k ∷ after) (length before) ≡ Some k
  one_of_them [] after k = refl
  one_of_them (j ∷ before) after k = one_of_them before after k

  columns_kinds : (before after : Kinds) (fs : List PlainExpr) → are_columns_from (length before) fs ≡ true → length after ≡ length fs → all_there (map (column_kind_of (before ++ after)) fs) ≡ Some after
  columns_kinds before [] [] is same = refl
  columns_kinds before [] (f ∷ fs) is same = absurd (omega (arith, same))
  columns_kinds before (k ∷ after) [] is same = absurd (omega (arith, same))
  columns_kinds before (k ∷ after) (f ∷ fs) is same =
      let parts = and_parts (is_column (length before) f) (are_columns_from (length before + 1) fs) is in
      let here = its_column (length before) f parts.0 in
      let longer : length (before ++ k ∷ []) ≡ length before + 1 = length-append before (k ∷ []) in
      let rest = columns_kinds (before ++ k ∷ []) after fs (ap (λ n. are_columns_from n fs) longer ∙ parts.1) (omega (arith, same)) in
      let rest_here : all_there (map (column_kind_of (before ++ k ∷ after)) fs) ≡ Some after = ap (λ l. all_there (map (column_kind_of l) fs)) (sym (append_assoc before (k ∷ []) after)) ∙ rest in
      let first : column_kind_of (before ++ k ∷ after) f ≡ Some k =
      ap (column_kind_of (before ++ k ∷ after)) here ∙ ap (λ o. option_map kind_of_column (option_map cell_kind_of o)) (one_of_them before after k) ∙ ap Some (its_kind k) in
      (λ i. all_there (first i ∷ map (column_kind_of (before ++ k ∷ after)) fs)) ∙ ap (option_and_then (λ others. Some (k ∷ others))) rest_here

  -- ---- how many columns

  kinds_length : {A : Type 0} (f : A → Option column.Kind) (xs : List A) (ks : Kinds) → all_there (map f xs) ≡ Some ks → length ks ≡ length xs
  kinds_length f [] ks e = let same : [] ≡ ks = cc in ap length (sym same)
  kinds_length f (x ∷ xs) ks e =
      let front = all_front (f x) (map f xs) ks e in
      ap length front.4 ∙ ap suc (kinds_length f xs front.1 front.3)

  pub width_is : (p : PlainPlan) (k : Kinds) → HasKinds p k → length k ≡ width schemas p
  width_is (Scan stream) k h = ap (λ o. length (unwrap_or o [])) (sym h)
  width_is (Filter p a) k h = width_is p k (of_filter p a k h).0
  width_is (Project p es) k h = let j = of_project p es k h in kinds_length (column_kind_of j.0) es k j.3
  width_is (Distinct p) k h = width_is p k h
  width_is (Group p keys aggs) k h =
      let j = and_then (group_kinds keys aggs) (plan_kinds schemas p) k h in
      let t = otherwise (is_empty keys || is_empty aggs) _ k j.2 in
      let parts = both_some (λ key_kinds agg_kinds. Some (key_kinds ++ agg_kinds)) (all_there (map (slice_get j.0) keys)) (all_there (map (agg_kind j.0) aggs)) k t.1 in
      let same : parts.0 ++ parts.1 ≡ k = let e = parts.4 in cc in
      ap length (sym same) ∙ length-append parts.0 parts.1
      ∙ (λ i. kinds_length (slice_get j.0) keys parts.0 parts.2 i + kinds_length (agg_kind j.0) aggs parts.1 parts.3 i)
  width_is (Join p q on) k h =
      let parts = both_some (join_kinds on) (plan_kinds schemas p) (plan_kinds schemas q) k h in
      let t = otherwise (is_empty on) _ k parts.4 in
      let same = (cond_some _ (parts.0 ++ parts.1) k t.1).1 in
      ap length (sym same) ∙ length-append parts.0 parts.1 ∙ (λ i. width_is p parts.0 parts.2 i + width_is q parts.1 parts.3 i)
  width_is (Concat p q) k h = width_is p k (of_concat p q k h).0
  width_is (Order p keys) k h = width_is p k (of_order p keys k h)

  -- all columns in order
  pub all_columns : (p : PlainPlan) (fs : List PlainExpr) (k : Kinds) → HasKinds p k → are_columns (width schemas p) fs ≡ true → (are_columns_from 0 fs ≡ true) × (length k ≡ length fs)
  all_columns p fs k h is =
      let parts = and_parts (width schemas p == length fs) (are_columns_from 0 fs) is in
      (parts.1, width_is p k h ∙ equal_numbers (width schemas p) (length fs) parts.0)

  -- a projection to all columns in order has the kinds of the plan below
  none_kinds : (p : PlainPlan) (fs : List PlainExpr) (k : Kinds) → HasKinds (Project p fs) k → IfSome (project_none schemas p fs) (λ q. HasKinds q k)
  none_kinds p fs k h = by (are_columns (width schemas p) fs) refl
    where
      by : (t : Bool) → are_columns (width schemas p) fs ≡ t → IfSome (cond t (Some p) None) (λ q. HasKinds q k)
      by true is =
          let j = of_project p fs k h in
          let all = all_columns p fs j.0 j.1 is in
          let same : Some j.0 ≡ Some k = sym (columns_kinds [] j.0 fs all.0 all.1) ∙ j.3 in
          j.1 ∙ same
      by false is = tt

  project_rule_kinds : (p : PlainPlan) (fs : List PlainExpr) (k : Kinds) → HasKinds (Project p fs) k → IfSome (project_rule schemas p fs) (λ q. HasKinds q k)
  project_rule_kinds (Project p es) fs k h = by (may_fuse es fs)
    where
      by : (t : Bool) → IfSome (cond t (Some (Project p (map (put_in es) fs))) (project_none schemas (Project p es) fs)) (λ q. HasKinds q k)
      by true = fused_kinds p es fs k h
      by false = none_kinds (Project p es) fs k h
  project_rule_kinds p fs k h = none_kinds p fs k h

  -- ---- leaves

  abbrev pub SameLeaves : PlainPlan → PlainPlan → Type 0
  SameLeaves p q = leaves q ≡ leaves p

  filter_rule_leaves : (p : PlainPlan) (a : PlainExpr) → IfSome (filter_rule p a) (SameLeaves p)
  filter_rule_leaves (Filter p b) a = refl
  filter_rule_leaves (Concat p q) a = refl
  filter_rule_leaves (Order p keys) a = refl
  filter_rule_leaves (Distinct p) a = refl
  filter_rule_leaves p a = by (is_true a)
    where
      by : (t : Bool) → IfSome (cond t (Some p) None) (SameLeaves p)
      by true = refl
      by false = tt

  none_leaves : (t : Bool) (p : PlainPlan) → IfSome (cond t (Some p) None) (SameLeaves p)
  none_leaves true p = refl
  none_leaves false p = tt

  project_rule_leaves : (p : PlainPlan) (fs : List PlainExpr) → IfSome (project_rule schemas p fs) (SameLeaves p)
  project_rule_leaves (Project p es) fs = by (may_fuse es fs)
    where
      by : (t : Bool) → IfSome (cond t (Some (Project p (map (put_in es) fs))) (project_none schemas (Project p es) fs)) (SameLeaves p)
      by true = refl
      by false = none_leaves (are_columns (width schemas (Project p es)) fs) (Project p es)
  project_rule_leaves p fs = none_leaves (are_columns (width schemas p) fs) p

  pub step_leaves : (p : PlainPlan) → IfSome (plan_step schemas p) (SameLeaves p)
  step_leaves (Scan stream) = tt
  step_leaves (Filter p a) =
      inside (SameLeaves p) (SameLeaves p) (λ x. Filter x a) (plan_step schemas p) _ (λ x is. is) (step_leaves p)
      (inside (λ x. Unit {0}) (SameLeaves p) (Filter p) (expr_step a) _ (λ x u. refl) (each_of (λ x. Unit {0}) (expr_step a) (λ x e. tt)) (filter_rule_leaves p a))
  step_leaves (Project p es) =
      inside (SameLeaves p) (SameLeaves p) (λ x. Project x es) (plan_step schemas p) _ (λ x is. is) (step_leaves p)
      (inside (λ x. Unit {0}) (SameLeaves p) (Project p) (exprs_step es) _ (λ x u. refl) (each_of (λ x. Unit {0}) (exprs_step es) (λ x e. tt)) (project_rule_leaves p es))
  step_leaves (Distinct p) = inside (SameLeaves p) (SameLeaves p) Distinct (plan_step schemas p) None (λ x is. is) (step_leaves p) tt
  step_leaves (Group p keys aggs) = inside (SameLeaves p) (SameLeaves p) (λ x. Group x keys aggs) (plan_step schemas p) None (λ x is. is) (step_leaves p) tt
  step_leaves (Join p q on) =
      inside (SameLeaves p) (SameLeaves (Join p q on)) (λ x. Join x q on) (plan_step schemas p) _ (λ x is. ap (λ l. l ++ leaves q) is) (step_leaves p)
      (inside (SameLeaves q) (SameLeaves (Join p q on)) (λ y. Join p y on) (plan_step schemas q) None (λ y is. ap (λ l. leaves p ++ l) is) (step_leaves q) tt)
  step_leaves (Concat p q) =
      inside (SameLeaves p) (SameLeaves (Concat p q)) (λ x. Concat x q) (plan_step schemas p) _ (λ x is. ap (λ l. l ++ leaves q) is) (step_leaves p)
      (inside (SameLeaves q) (SameLeaves (Concat p q)) (Concat p) (plan_step schemas q) None (λ y is. ap (λ l. leaves p ++ l) is) (step_leaves q) tt)
  step_leaves (Order p keys) = inside (SameLeaves p) (SameLeaves p) (λ x. Order x keys) (plan_step schemas p) None (λ x is. is) (step_leaves p) tt

  -- ---- the limit

  abbrev IsFew : PlainPlan → Type 0
  IsFew p = has_too_many schemas p ≡ false

  filter_rule_few : (p : PlainPlan) (a : PlainExpr) → IsFew p → IfSome (filter_rule p a) IsFew
  filter_rule_few (Filter p b) a few = few
  filter_rule_few (Concat p q) a few = few
  filter_rule_few (Order p keys) a few = few
  filter_rule_few (Distinct p) a few = few
  filter_rule_few p a few = by (is_true a)
    where
      by : (t : Bool) → IfSome (cond t (Some p) None) IsFew
      by true = few
      by false = tt

  none_few : (t : Bool) (p : PlainPlan) → IsFew p → IfSome (cond t (Some p) None) IsFew
  none_few true p few = few
  none_few false p few = tt

  project_rule_few : (p : PlainPlan) (fs : List PlainExpr) → is_above_limit (length fs) ≡ false → IsFew p → IfSome (project_rule schemas p fs) IsFew
  project_rule_few (Project p es) fs here few = by (may_fuse es fs)
    where
      by : (t : Bool) → IfSome (cond t (Some (Project p (map (put_in es) fs))) (project_none schemas (Project p es) fs)) IsFew
      by true =
          or_from (is_above_limit (length (map (put_in es) fs))) (has_too_many schemas p) (ap is_above_limit (put_length es fs) ∙ here)
          (or_parts (is_above_limit (length es)) (has_too_many schemas p) few).1
      by false = none_few (are_columns (width schemas (Project p es)) fs) (Project p es) few
  project_rule_few p fs here few = none_few (are_columns (width schemas p) fs) p few

  -- ---- kinds and the limit

  -- the plan has these kinds, and not too many columns, keys or pairs
  abbrev pub Fits : Kinds → PlainPlan → Type 0
  Fits k p = HasKinds p k × IsFew p

  pub step_fits : (p : PlainPlan) (k : Kinds) → Fits k p → IfSome (plan_step schemas p) (Fits k)
  step_fits (Scan stream) k h = tt
  step_fits (Filter p a) k h =
      let parts = of_filter p a k h.0 in
      inside (Fits k) (Fits k) (λ x. Filter x a) (plan_step schemas p) _ (λ x is. (to_filter x a k is.0 parts.1, is.1)) (step_fits p k (parts.0, h.1))
      (inside (λ x. expression_kind k x ≡ Some kind.Bool) (Fits k) (Filter p) (expr_step a) _ (λ x is. (to_filter p x k parts.0 is, h.1)) (step_kind k a kind.Bool parts.1)
      (both_of (λ q. HasKinds q k) IsFew (filter_rule p a) (filter_rule_kinds p a k h.0) (filter_rule_few p a h.1)))
  step_fits (Project p es) k h =
      let few = or_parts (is_above_limit (length es)) (has_too_many schemas p) h.1 in
      let j = of_project p es k h.0 in
      inside (Fits j.0) (Fits k) (λ x. Project x es) (plan_step schemas p) _
      (λ x is. (to_project x es j.0 k is.0 j.2 j.3, or_from (is_above_limit (length es)) (has_too_many schemas x) few.0 is.1)) (step_fits p j.0 (j.1, few.1))
      (inside (λ gs. all_there (map (column_kind_of j.0) gs) ≡ Some k × (length gs ≡ length es)) (Fits k) (Project p) (exprs_step es) _
      (λ gs is. (
        to_project p gs j.0 k j.1 (same_empty gs es is.1 j.2) is.0,
        or_from (is_above_limit (length gs)) (has_too_many schemas p) (ap is_above_limit is.1 ∙ few.0) few.1,
      ))
      (both_of (λ gs. all_there (map (column_kind_of j.0) gs) ≡ Some k) (λ gs. length gs ≡ length es) (exprs_step es) (columns_step j.0 es k j.3) (length_step es))
      (both_of (λ q. HasKinds q k) IsFew (project_rule schemas p es) (project_rule_kinds p es k h.0) (project_rule_few p es few.0 few.1)))
  step_fits (Distinct p) k h = inside (Fits k) (Fits k) Distinct (plan_step schemas p) None (λ x is. is) (step_fits p k h) tt
  step_fits (Group p keys aggs) k h =
      let few = or_parts (is_above_limit (length keys + length aggs)) (has_too_many schemas p) h.1 in
      let j = and_then (group_kinds keys aggs) (plan_kinds schemas p) k h.0 in
      inside (Fits j.0) (Fits k) (λ x. Group x keys aggs) (plan_step schemas p) None
      (λ x is. (
        ap (option_and_then (group_kinds keys aggs)) is.0 ∙ j.2,
        or_from (is_above_limit (length keys + length aggs)) (has_too_many schemas x) few.0 is.1,
      ))
      (step_fits p j.0 (j.1, few.1)) tt
  step_fits (Join p q on) k h =
      let parts = both_some (join_kinds on) (plan_kinds schemas p) (plan_kinds schemas q) k h.0 in
      let three = or_parts (is_above_limit (column_count schemas p + column_count schemas q) || is_above_limit (length on) || has_too_many schemas p) (has_too_many schemas q) h.1 in
      let two = or_parts (is_above_limit (column_count schemas p + column_count schemas q) || is_above_limit (length on)) (has_too_many schemas p) three.0 in
      inside (Fits parts.0) (Fits k) (λ x. Join x q on) (plan_step schemas p) _
      (λ x is.
      let wide : (is_above_limit (column_count schemas x + column_count schemas q) || is_above_limit (length on)) ≡ false =
      (λ i. is_above_limit (same_count p x parts.0 parts.2 is.0 i + column_count schemas q) || is_above_limit (length on)) ∙ two.0 in
      ((λ i. of_both (join_kinds on) (is.0 i) (parts.3 i)) ∙ parts.4, (λ i. (wide i || is.1 i) || three.1 i)))
      (step_fits p parts.0 (parts.2, two.1))
      (inside (Fits parts.1) (Fits k) (λ y. Join p y on) (plan_step schemas q) None
      (λ y is.
      let wide : (is_above_limit (column_count schemas p + column_count schemas y) || is_above_limit (length on)) ≡ false =
      (λ i. is_above_limit (column_count schemas p + same_count q y parts.1 parts.3 is.0 i) || is_above_limit (length on)) ∙ two.0 in
      ((λ i. of_both (join_kinds on) (parts.2 i) (is.0 i)) ∙ parts.4, (λ i. (wide i || two.1 i) || is.1 i)))
      (step_fits q parts.1 (parts.3, three.1)) tt)
    where
      same_count : (p x : PlainPlan) (j : Kinds) → HasKinds p j → HasKinds x j → column_count schemas x ≡ column_count schemas p
      same_count p x j hp hx = ap (λ o. length (unwrap_or o [])) (hx ∙ sym hp)
  step_fits (Concat p q) k h =
      let few = or_parts (has_too_many schemas p) (has_too_many schemas q) h.1 in
      let parts = of_concat p q k h.0 in
      inside (Fits k) (Fits k) (λ x. Concat x q) (plan_step schemas p) _ (λ x is. (to_concat x q k is.0 parts.1, or_from (has_too_many schemas x) (has_too_many schemas q) is.1 few.1))
      (step_fits p k (parts.0, few.0))
      (inside (Fits k) (Fits k) (Concat p) (plan_step schemas q) None (λ y is. (to_concat p y k parts.0 is.0, or_from (has_too_many schemas p) (has_too_many schemas y) few.0 is.1))
      (step_fits q k (parts.1, few.1)) tt)
  step_fits (Order p keys) k h =
      let few = or_parts (is_above_limit (length keys)) (has_too_many schemas p) h.1 in
      let j = and_then (order_kinds keys) (plan_kinds schemas p) k h.0 in
      inside (Fits j.0) (Fits k) (λ x. Order x keys) (plan_step schemas p) None
      (λ x is. (ap (option_and_then (order_kinds keys)) is.0 ∙ j.2, or_from (is_above_limit (length keys)) (has_too_many schemas x) few.0 is.1))
      (step_fits p j.0 (j.1, few.1)) tt

  -- ---- the whole typing

  typing_parts : (o : Option ℕ) (k : Option Kinds) (many : Bool) (kinds : Kinds)
      → present_or o (typed_or k (λ l. cond many (Err TooMany) (Ok l))) ≡ Ok kinds → (o ≡ None) × (k ≡ Some kinds) × (many ≡ false)
  typing_parts None (Some l) false kinds e = (refl, cc, refl)
  typing_parts None (Some l) true kinds e = absurd cc
  typing_parts None None many kinds e = absurd cc
  typing_parts (Some stream) k many kinds e = absurd cc

  -- a plan with the leaves, that fits too, has the typing
  typed_too : (p q : PlainPlan) (k : Kinds) → plan_typing schemas p ≡ Ok k → leaves q ≡ leaves p → Fits k q → plan_typing schemas q ≡ Ok k
  typed_too p q k h same fits =
      (λ i. present_or (find (λ stream. nat_le (length schemas) stream) (same i)) (typed_or (fits.0 i) (λ l. cond (fits.1 i) (Err TooMany) (Ok l))))
      ∙ ap (λ o. present_or o (Ok k)) (typing_parts (absent_stream schemas p) (plan_kinds schemas p) (has_too_many schemas p) k h).0

  pub step_typing : (p q : PlainPlan) (k : Kinds) → plan_typing schemas p ≡ Ok k → plan_step schemas p ≡ Some q → plan_typing schemas q ≡ Ok k
  step_typing p q k h e =
      let parts = typing_parts (absent_stream schemas p) (plan_kinds schemas p) (has_too_many schemas p) k h in
      typed_too p q k h (at_step (SameLeaves p) e (step_leaves p)) (at_step (Fits k) e (step_fits p k (parts.1, parts.2)))

  pub typed_kinds : (p : PlainPlan) (k : Kinds) → plan_typing schemas p ≡ Ok k → plan_kinds schemas p ≡ Some k
  typed_kinds p k h = (typing_parts (absent_stream schemas p) (plan_kinds schemas p) (has_too_many schemas p) k h).1

  -- ---- all steps

  pub all_steps_typing : (k : Kinds) {z p : PlainPlan} → Reaches (plan_step schemas) z p → plan_typing schemas p ≡ Ok k → plan_typing schemas z ≡ Ok k
  all_steps_typing k r h =
      kept (plan_step schemas) (λ x. plan_typing schemas x ≡ Ok k) (λ x typed. each_of (λ y. plan_typing schemas y ≡ Ok k) (plan_step schemas x) (λ y e. step_typing x y k typed e)) r h

  pub all_steps_leaves : (p : PlainPlan) {z x : PlainPlan} → Reaches (plan_step schemas) z x → leaves x ≡ leaves p → leaves z ≡ leaves p
  all_steps_leaves p r h =
      kept (plan_step schemas) (SameLeaves p) (λ x same. each_of (SameLeaves p) (plan_step schemas x) (λ y e. at_step (SameLeaves x) e (step_leaves x) ∙ same)) r h
