-- Each rule of plans, and each step, keeps the meaning.
use Rattle.std.proofs.Common.{◌≡◌, refl, sym, ap, ◌∙◌, subst, suc, ◌+◌, Bool, true, false, cond, List, [], ◌∷◌, ◌++◌, map, length, take, drop, None, Some, IfSome, Result, Ok, Err, append_assoc, length-append, arith}
use Rattle.std.specs.List.{AllByRecursion}
use Rattle.std.specs.Cmp.{IsTotalOrder}
use Rattle.std.specs.Result.{IfOk}
use Rattle.std.proofs.lemmas.List.Elements.{recursion_from_All}
use Rattle.std.proofs.lemmas.Bool.{and_parts}
use Rattle.rows_core.specs.declared.order.Key.{Key}
use Rattle.rows_core.specs.declared.overflow.Overflow.{Overflow}
use Rattle.rows_core.specs.declared.value.Value.{Value}
use Rattle.rows_core.specs.declared.value.Value.TheVariants as value
use Rattle.rows_core.specs.RowOrder.{row_cmp}
use Rattle.rows_core.specs.Value.{kind_of, row_eq}
use Rattle.scalar_ops.specs.declared.cell.CellKind.TheVariants as kind
use Rattle.plan_core.specs.PlainExpr.{PlainExpr, And}
use Rattle.plan_core.specs.PlainPlan.{PlainPlan, Scan, Filter, Project, Distinct, Group, Join, Concat, Order, leaves, leaf_count}
use Rattle.plan_core.specs.Columns.{Row, Rows, column_of}
use Rattle.plan_core.specs.Distinct.{distinct_rows}
use Rattle.plan_core.specs.ExpressionKind.{expression_kind, cell_kind_of}
use Rattle.plan_core.specs.ExpressionValue.{◌>>=◌, expression_value, cell_of_value, value_of_cell}
use Rattle.plan_core.specs.Filter.{filter_rows}
use Rattle.plan_core.specs.Group.{group_rows}
use Rattle.plan_core.specs.Join.{join_rows}
use Rattle.plan_core.specs.PlanMeaning.{plan_meaning}
use Rattle.plan_core.specs.PlanTyping.{Kinds, all_there, column_kind_of, group_kinds, join_kinds, plan_kinds, plan_typing}
use Rattle.plan_core.specs.Project.{column_value, project_row, project_rows}
use Rattle.plan_core.specs.StableOrder.{order_rows}
use Rattle.plan_core.specs.TypedRows.{HaveKinds, AreOfStreams}
use Rattle.plan_laws.proofs.GroupBounds.{each}
use Rattle.plan_laws.proofs.TypedPlans.{and_then, lists_of_parts}
use Rattle.plan_laws.proofs.Answers.{both_some}
use Rattle.plan_canon.specs.Steps.{Reaches}
use Rattle.plan_canon.specs.ExprRules.{truth, is_true, expr_step, exprs_step}
use Rattle.plan_canon.specs.Normal.{MeanTheSame}
use Rattle.plan_canon.specs.PlanRules.{width, filter_rule, may_fuse, put_in, is_column, are_columns, are_columns_from, project_none, project_rule, plan_step}
use Rattle.plan_canon.proofs.Reached.{inside, each_of, both_of, at_step, kept}
use Rattle.plan_canon.proofs.SameValues.{true_is, step_value}
use Rattle.plan_canon.proofs.TestLaws.{same_test, all_pass, one_test, of_both_parts, below_order, below_distinct}
use Rattle.plan_canon.proofs.Fused.{all_front, kind_of_one, fused_rows}
use Rattle.plan_canon.proofs.StepTyping.{its_column, of_filter, of_concat, of_order, of_project, none_overflow, all_columns, typed_kinds, step_typing, step_leaves}

abbrev Given : Type 0
Given = Result Rows Overflow

bind_assoc : (x : Given) (f g : Rows → Given) → ((x >>= f) >>= g) ≡ (x >>= λ rows. f rows >>= g)
bind_assoc (Ok rows) f g = refl
bind_assoc (Err e) f g = refl

-- on rows with a property the two are the same
same_after : (P : Rows → Type 0) (x : Given) → IfOk x P → (f g : Rows → Given) → ((rows : Rows) → P rows → f rows ≡ g rows) → (x >>= f) ≡ (x >>= g)
same_after P (Ok rows) has f g h = h rows has
same_after P (Err e) has f g h = refl

abbrev OfKinds : Kinds → Rows → Type 0
OfKinds kinds rows = AllByRecursion (λ row. map kind_of row ≡ kinds) rows

by_recursion : (kinds : Kinds) (rows : Rows) → HaveKinds kinds rows → OfKinds kinds rows
by_recursion kinds rows h = recursion_from_All (λ row. map kind_of row ≡ kinds) rows h

-- ---- columns of the same values

same_columns : (kinds : Kinds) (fs : List PlainExpr) (ks : Kinds) → all_there (map (column_kind_of kinds) fs) ≡ Some ks → (row : Row) → map kind_of row ≡ kinds
    → IfSome (exprs_step fs) (λ gs. project_row gs row ≡ project_row fs row)
same_columns kinds [] ks all row its = tt
same_columns kinds (f ∷ fs) ks all row its =
    let front = all_front (column_kind_of kinds f) (map (column_kind_of kinds) fs) ks all in
    let typed = kind_of_one (expression_kind kinds f) front.0 front.2 in
    inside (λ x. expression_value x row ≡ expression_value f row) (λ gs. project_row gs row ≡ project_row (f ∷ fs) row) (λ x. x ∷ fs) (expr_step f) _
    (λ x same i. (same i >>= λ c. Ok (value_of_cell c)) >>= λ v. project_row fs row >>= λ vs. Ok (v ∷ vs))
    (step_value row f (cell_kind_of front.0) (ap (λ l. expression_kind l f) its ∙ typed))
    (inside (λ gs. project_row gs row ≡ project_row fs row) (λ gs. project_row gs row ≡ project_row (f ∷ fs) row) (λ xs. f ∷ xs) (exprs_step fs) None
    (λ gs same i. column_value f row >>= λ v. same i >>= λ vs. Ok (v ∷ vs))
    (same_columns kinds fs front.1 front.3 row its) tt)

-- at each of these rows
same_projection : (fs gs : List PlainExpr) (rows : Rows) → AllByRecursion (λ row. project_row gs row ≡ project_row fs row) rows → project_rows gs rows ≡ project_rows fs rows
same_projection fs gs [] h = refl
same_projection fs gs (row ∷ rows) h = (λ i. h.0 i >>= λ x. same_projection fs gs rows h.1 i >>= λ xs. Ok (x ∷ xs))

-- ---- all columns in order

value_there : (v : Value) → value_of_cell (cell_of_value v) ≡ v
value_there (value.Int n) = refl
value_there (value.Text t) = refl
value_there (value.Bool b) = refl

column_behind : (before after : Row) (v : Value) → column_of (before ++ v ∷ after) (length before) ≡ v
column_behind [] after v = refl
column_behind (w ∷ before) after v = column_behind before after v

columns_row : (before after : Row) (fs : List PlainExpr) → are_columns_from (length before) fs ≡ true → length after ≡ length fs → project_row fs (before ++ after) ≡ Ok after
columns_row before [] [] is same = refl
columns_row before [] (f ∷ fs) is same = absurd (omega (arith, same))
columns_row before (v ∷ after) [] is same = absurd (omega (arith, same))
columns_row before (v ∷ after) (f ∷ fs) is same =
    let parts = and_parts (is_column (length before) f) (are_columns_from (length before + 1) fs) is in
    let here = its_column (length before) f parts.0 in
    let longer : length (before ++ v ∷ []) ≡ length before + 1 = length-append before (v ∷ []) in
    let rest = columns_row (before ++ v ∷ []) after fs (ap (λ n. are_columns_from n fs) longer ∙ parts.1) (omega (arith, same)) in
    let rest_here : project_row fs (before ++ v ∷ after) ≡ Ok after = ap (project_row fs) (sym (append_assoc before (v ∷ []) after)) ∙ rest in
    let first : column_value f (before ++ v ∷ after) ≡ Ok v =
    ap (λ e. column_value e (before ++ v ∷ after)) here ∙ ap (λ w. Ok (value_of_cell (cell_of_value w))) (column_behind before after v) ∙ ap Ok (value_there v) in
    (λ i. first i >>= λ x. rest_here i >>= λ xs. Ok (x ∷ xs))

columns_rows : (kinds : Kinds) (fs : List PlainExpr) → are_columns_from 0 fs ≡ true → length kinds ≡ length fs → (rows : Rows) → OfKinds kinds rows → project_rows fs rows ≡ Ok rows
columns_rows kinds fs is same [] h = refl
columns_rows kinds fs is same (row ∷ rows) h =
    let long : length row ≡ length fs = sym (kinds_length row) ∙ ap length h.0 ∙ same in
    (λ i. columns_row [] row fs is long i >>= λ x. columns_rows kinds fs is same rows h.1 i >>= λ xs. Ok (x ∷ xs))
  where
    kinds_length : (row : Row) → length (map kind_of row) ≡ length row
    kinds_length [] = refl
    kinds_length (v ∷ row) = ap suc (kinds_length row)

-- ---- rules of tests

filter_concat : (a : PlainExpr) (x y : Given) → ((x >>= filter_rows a) >>= λ ls. (y >>= filter_rows a) >>= λ rs. Ok (ls ++ rs)) ≡ ((x >>= λ ls. y >>= λ rs. Ok (ls ++ rs)) >>= filter_rows a)
filter_concat a (Err e) y = refl
filter_concat a (Ok ls) (Err e) = by (filter_rows a ls)
  where
    by : (r : Given) → ◌≡◌ {A = Given} (r >>= λ us. Err e) (Err e)
    by (Ok us) = refl
    by (Err o) = refl
filter_concat a (Ok ls) (Ok rs) = sym (of_both_parts a ls rs)

abbrev SameRows : List Rows → PlainPlan → PlainPlan → Type 0
SameRows lists p q = plan_meaning q lists ≡ plan_meaning p lists

pub joined_tests : (p : PlainPlan) (a b : PlainExpr) (lists : List Rows) → SameRows lists (Filter (Filter p a) b) (Filter p (And a b))
joined_tests p a b lists = (λ i. plan_meaning p lists >>= λ rows. one_test a b rows i) ∙ sym (bind_assoc (plan_meaning p lists) (filter_rows a) (filter_rows b))

pub tested_parts : (p q : PlainPlan) (a : PlainExpr) (lists : List Rows) → SameRows lists (Filter (Concat p q) a) (Concat (Filter p a) (Filter q a))
tested_parts p q a lists = filter_concat a (plan_meaning p (take (leaf_count p) lists)) (plan_meaning q (drop (leaf_count p) lists))

pub no_test : (p : PlainPlan) (lists : List Rows) → SameRows lists (Filter p (truth true)) p
no_test p lists = by (plan_meaning p lists)
  where
    by : (r : Given) → r ≡ (r >>= filter_rows (truth true))
    by (Ok rows) = sym (all_pass rows)
    by (Err e) = refl

module _ (total : (keys : List Key) → IsTotalOrder (row_cmp keys)) (equal : (a b : Row) → row_eq a b ≡ true → a ≡ b) where
  pub tested_order : (p : PlainPlan) (keys : List Key) (a : PlainExpr) (lists : List Rows) → SameRows lists (Filter (Order p keys) a) (Order (Filter p a) keys)
  tested_order p keys a lists = by (plan_meaning p lists)
    where
      by : (r : Given) → ((r >>= filter_rows a) >>= λ rows. Ok (order_rows keys rows)) ≡ ((r >>= λ rows. Ok (order_rows keys rows)) >>= filter_rows a)
      by (Ok rows) = sym (below_order keys (total keys) a rows)
      by (Err e) = refl

  pub tested_distinct : (p : PlainPlan) (a : PlainExpr) (lists : List Rows) → SameRows lists (Filter (Distinct p) a) (Distinct (Filter p a))
  tested_distinct p a lists = by (plan_meaning p lists)
    where
      by : (r : Given) → ((r >>= filter_rows a) >>= λ rows. Ok (distinct_rows rows)) ≡ ((r >>= λ rows. Ok (distinct_rows rows)) >>= filter_rows a)
      by (Ok rows) = sym (below_distinct equal a rows)
      by (Err e) = refl

  filter_rule_means : (p : PlainPlan) (a : PlainExpr) (lists : List Rows) → IfSome (filter_rule p a) (SameRows lists (Filter p a))
  filter_rule_means (Filter p b) a lists = joined_tests p b a lists
  filter_rule_means (Concat p q) a lists = tested_parts p q a lists
  filter_rule_means (Order p keys) a lists = tested_order p keys a lists
  filter_rule_means (Distinct p) a lists = tested_distinct p a lists
  filter_rule_means p a lists = by (is_true a) refl
    where
      by : (t : Bool) → is_true a ≡ t → IfSome (cond t (Some p) None) (SameRows lists (Filter p a))
      by true e = no_test p lists ∙ ap (λ b. plan_meaning (Filter p b) lists) (sym (true_is a e))
      by false e = tt

  module _ (gives : (schemas : List Kinds) (plan : PlainPlan) (kinds : Kinds) (lists : List Rows) → plan_kinds schemas plan ≡ Some kinds
      → AreOfStreams schemas (leaves plan) lists → IfOk (plan_meaning plan lists) (HaveKinds kinds)) (schemas : List Kinds) where
    abbrev IsOver : PlainPlan → Kinds → Type 0
    IsOver p k = plan_kinds schemas p ≡ Some k

    abbrev Lists : PlainPlan → List Rows → Type 0
    Lists p lists = AreOfStreams schemas (leaves p) lists

    gives_rows : (p : PlainPlan) (k : Kinds) (lists : List Rows) → IsOver p k → Lists p lists → IfOk (plan_meaning p lists) (OfKinds k)
    gives_rows p k lists h typed = by (plan_meaning p lists) (gives schemas p k lists h typed)
      where
        by : (r : Given) → IfOk r (HaveKinds k) → IfOk r (OfKinds k)
        by (Ok rows) has = by_recursion k rows has
        by (Err e) has = tt

    -- ---- rules of columns

    pub fused_columns : (p : PlainPlan) (es fs : List PlainExpr) (k : Kinds) (lists : List Rows) → IsOver (Project (Project p es) fs) k → may_fuse es fs ≡ true → Lists p lists
        → SameRows lists (Project (Project p es) fs) (Project p (map (put_in es) fs))
    fused_columns p es fs k lists h may typed =
        let outer = of_project schemas (Project p es) fs k h in
        let inner = of_project schemas p es outer.0 outer.1 in
        same_after (OfKinds inner.0) (plan_meaning p lists) (gives_rows p inner.0 lists inner.1 typed) (project_rows (map (put_in es) fs)) (λ rows. project_rows es rows >>= project_rows fs)
        (λ rows has.
        let fused = fused_rows inner.0 es outer.0 inner.3 (none_overflow es fs may) fs k outer.3 rows has in
        fused.2 ∙ ap (λ r. r >>= project_rows fs) (sym fused.1))
        ∙ sym (bind_assoc (plan_meaning p lists) (project_rows es) (project_rows fs))

    pub no_projection : (p : PlainPlan) (fs : List PlainExpr) (k : Kinds) (lists : List Rows) → IsOver (Project p fs) k → are_columns (width schemas p) fs ≡ true → Lists p lists
        → SameRows lists (Project p fs) p
    no_projection p fs k lists h is typed =
        let j = of_project schemas p fs k h in
        let all = all_columns schemas p fs j.0 j.1 is in
        by (plan_meaning p lists) j.0 (gives_rows p j.0 lists j.1 typed) all.0 all.1
      where
        by : (r : Given) (j : Kinds) → IfOk r (OfKinds j) → are_columns_from 0 fs ≡ true → length j ≡ length fs → r ≡ (r >>= project_rows fs)
        by (Ok rows) j has is same = sym (columns_rows j fs is same rows has)
        by (Err e) j has is same = refl

    none_means : (p : PlainPlan) (fs : List PlainExpr) (k : Kinds) (lists : List Rows) → IsOver (Project p fs) k → Lists p lists → IfSome (project_none schemas p fs) (SameRows lists (Project p fs))
    none_means p fs k lists h typed = by (are_columns (width schemas p) fs) refl
      where
        by : (t : Bool) → are_columns (width schemas p) fs ≡ t → IfSome (cond t (Some p) None) (SameRows lists (Project p fs))
        by true is = no_projection p fs k lists h is typed
        by false is = tt

    project_rule_means : (p : PlainPlan) (fs : List PlainExpr) (k : Kinds) (lists : List Rows) → IsOver (Project p fs) k → Lists p lists
        → IfSome (project_rule schemas p fs) (SameRows lists (Project p fs))
    project_rule_means (Project p es) fs k lists h typed = by (may_fuse es fs) refl
      where
        by : (t : Bool) → may_fuse es fs ≡ t → IfSome (cond t (Some (Project p (map (put_in es) fs))) (project_none schemas (Project p es) fs)) (SameRows lists (Project (Project p es) fs))
        by true is = fused_columns p es fs k lists h is typed
        by false is = none_means (Project p es) fs k lists h typed
    project_rule_means p fs k lists h typed = none_means p fs k lists h typed

    -- ---- steps of expressions

    stepped_test : (p : PlainPlan) (a b : PlainExpr) (k : Kinds) (lists : List Rows) → IsOver (Filter p a) k → Lists p lists → expr_step a ≡ Some b → SameRows lists (Filter p a) (Filter p b)
    stepped_test p a b k lists h typed e =
        let parts = of_filter schemas p a k h in
        same_after (OfKinds k) (plan_meaning p lists) (gives_rows p k lists parts.0 typed) (filter_rows b) (filter_rows a)
        (λ rows has. same_test b a rows
        (each (λ row. map kind_of row ≡ k) (λ row. expression_value b row ≡ expression_value a row)
        (λ row its. at_step (λ x. expression_value x row ≡ expression_value a row) e (step_value row a kind.Bool (ap (λ l. expression_kind l a) its ∙ parts.1))) rows has))

    stepped_columns : (p : PlainPlan) (fs gs : List PlainExpr) (k : Kinds) (lists : List Rows) → IsOver (Project p fs) k → Lists p lists → exprs_step fs ≡ Some gs
        → SameRows lists (Project p fs) (Project p gs)
    stepped_columns p fs gs k lists h typed e =
        let j = of_project schemas p fs k h in
        same_after (OfKinds j.0) (plan_meaning p lists) (gives_rows p j.0 lists j.1 typed) (project_rows gs) (project_rows fs)
        (λ rows has. same_projection fs gs rows
        (each (λ row. map kind_of row ≡ j.0) (λ row. project_row gs row ≡ project_row fs row)
        (λ row its. at_step (λ x. project_row x row ≡ project_row fs row) e (same_columns j.0 fs k j.3 row its)) rows has))

    -- ---- steps

    pub step_means : (p : PlainPlan) (k : Kinds) (lists : List Rows) → IsOver p k → Lists p lists → IfSome (plan_step schemas p) (SameRows lists p)
    step_means (Scan stream) k lists h typed = tt
    step_means (Filter p a) k lists h typed =
        inside (SameRows lists p) (SameRows lists (Filter p a)) (λ x. Filter x a) (plan_step schemas p) _ (λ x same. ap (λ r. r >>= filter_rows a) same)
        (step_means p k lists (of_filter schemas p a k h).0 typed)
        (inside (λ b. SameRows lists (Filter p a) (Filter p b)) (SameRows lists (Filter p a)) (Filter p) (expr_step a) _ (λ b same. same)
        (each_of (λ b. SameRows lists (Filter p a) (Filter p b)) (expr_step a) (λ b e. stepped_test p a b k lists h typed e))
        (filter_rule_means p a lists))
    step_means (Project p es) k lists h typed =
        let j = of_project schemas p es k h in
        inside (SameRows lists p) (SameRows lists (Project p es)) (λ x. Project x es) (plan_step schemas p) _ (λ x same. ap (λ r. r >>= project_rows es) same)
        (step_means p j.0 lists j.1 typed)
        (inside (λ gs. SameRows lists (Project p es) (Project p gs)) (SameRows lists (Project p es)) (Project p) (exprs_step es) _ (λ gs same. same)
        (each_of (λ gs. SameRows lists (Project p es) (Project p gs)) (exprs_step es) (λ gs e. stepped_columns p es gs k lists h typed e))
        (project_rule_means p es k lists h typed))
    step_means (Distinct p) k lists h typed =
        inside (SameRows lists p) (SameRows lists (Distinct p)) Distinct (plan_step schemas p) None (λ x same. ap (λ r. r >>= λ rows. Ok (distinct_rows rows)) same)
        (step_means p k lists h typed) tt
    step_means (Group p keys aggs) k lists h typed =
        let j = and_then (group_kinds keys aggs) (plan_kinds schemas p) k h in
        inside (SameRows lists p) (SameRows lists (Group p keys aggs)) (λ x. Group x keys aggs) (plan_step schemas p) None (λ x same. ap (λ r. r >>= group_rows keys aggs) same)
        (step_means p j.0 lists j.1 typed) tt
    step_means (Join p q on) k lists h typed =
        let parts = both_some (join_kinds on) (plan_kinds schemas p) (plan_kinds schemas q) k h in
        let split = lists_of_parts schemas (leaves p) (leaves q) lists typed in
        inside (λ x. (leaves x ≡ leaves p) × SameRows (take (leaf_count p) lists) p x) (SameRows lists (Join p q on)) (λ x. Join x q on) (plan_step schemas p) _
        (λ x same.
        (λ i. plan_meaning x (take (length (same.0 i)) lists) >>= λ ls. plan_meaning q (drop (length (same.0 i)) lists) >>= λ rs. Ok (join_rows on ls rs))
        ∙ ap (λ r. r >>= λ ls. plan_meaning q (drop (leaf_count p) lists) >>= λ rs. Ok (join_rows on ls rs)) same.1)
        (both_of (λ x. leaves x ≡ leaves p) (SameRows (take (leaf_count p) lists) p) (plan_step schemas p) (step_leaves schemas p) (step_means p parts.0 (take (leaf_count p) lists) parts.2 split.0))
        (inside (SameRows (drop (leaf_count p) lists) q) (SameRows lists (Join p q on)) (λ y. Join p y on) (plan_step schemas q) None
        (λ y same. ap (λ r. plan_meaning p (take (leaf_count p) lists) >>= λ ls. r >>= λ rs. Ok (join_rows on ls rs)) same)
        (step_means q parts.1 (drop (leaf_count p) lists) parts.3 split.1) tt)
    step_means (Concat p q) k lists h typed =
        let parts = of_concat schemas p q k h in
        let split = lists_of_parts schemas (leaves p) (leaves q) lists typed in
        inside (λ x. (leaves x ≡ leaves p) × SameRows (take (leaf_count p) lists) p x) (SameRows lists (Concat p q)) (λ x. Concat x q) (plan_step schemas p) _
        (λ x same.
        (λ i. plan_meaning x (take (length (same.0 i)) lists) >>= λ ls. plan_meaning q (drop (length (same.0 i)) lists) >>= λ rs. Ok (ls ++ rs))
        ∙ ap (λ r. r >>= λ ls. plan_meaning q (drop (leaf_count p) lists) >>= λ rs. Ok (ls ++ rs)) same.1)
        (both_of (λ x. leaves x ≡ leaves p) (SameRows (take (leaf_count p) lists) p) (plan_step schemas p) (step_leaves schemas p) (step_means p k (take (leaf_count p) lists) parts.0 split.0))
        (inside (SameRows (drop (leaf_count p) lists) q) (SameRows lists (Concat p q)) (Concat p) (plan_step schemas q) None
        (λ y same. ap (λ r. plan_meaning p (take (leaf_count p) lists) >>= λ ls. r >>= λ rs. Ok (ls ++ rs)) same)
        (step_means q k (drop (leaf_count p) lists) parts.1 split.1) tt)
    step_means (Order p keys) k lists h typed =
        inside (SameRows lists p) (SameRows lists (Order p keys)) (λ x. Order x keys) (plan_step schemas p) None (λ x same. ap (λ r. r >>= λ rows. Ok (order_rows keys rows)) same)
        (step_means p k lists (of_order schemas p keys k h) typed) tt

    pub step_same : (p q : PlainPlan) (k : Kinds) → plan_typing schemas p ≡ Ok k → plan_step schemas p ≡ Some q → MeanTheSame schemas p q
    step_same p q k h e lists typed = at_step (SameRows lists p) e (step_means p k lists (typed_kinds schemas p k h) typed)

    -- ---- all steps

    pub all_steps_same : (p : PlainPlan) (k : Kinds) {z : PlainPlan} → Reaches (plan_step schemas) z p → plan_typing schemas p ≡ Ok k → MeanTheSame schemas p z
    all_steps_same p k {z = z} r h lists typed =
        let end = kept (plan_step schemas) (λ x. (plan_typing schemas x ≡ Ok k) × (leaves x ≡ leaves p) × SameRows lists p x)
        (λ x is. each_of (λ y. (plan_typing schemas y ≡ Ok k) × (leaves y ≡ leaves p) × SameRows lists p y) (plan_step schemas x)
        (λ y e. (
          step_typing schemas x y k is.0 e,
          at_step (λ w. leaves w ≡ leaves x) e (step_leaves schemas x) ∙ is.1,
          step_same x y k is.0 e lists (subst (λ l. AreOfStreams schemas l lists) (sym is.1) typed) ∙ is.2,
        )))
        r (h, refl, refl) in
        end.2
