-- What the typing of a plan says of its parts.
use Rattle.std.proofs.Common.{◌≡◌, refl, sym, ap, ◌∙◌, subst, ℕ, ◌≤◌, true, List, [], ◌∷◌, ◌++◌, map, length, take, drop, All, Ok, Option, None, Some, IfOk, IsSome, arith}
use Rattle.std.specs.List.{AllByRecursion}
use Rattle.std.specs.Option.{option_map}
use Rattle.std.proofs.lemmas.List.Elements.{All-from_recursion}
use Rattle.std.proofs.lemmas.Option.{cond_some}
use Rattle.rows_core.specs.declared.kind.Kind.{Kind}
use Rattle.rows_core.specs.Value.{kind_of}
use Rattle.scalar_ops.specs.declared.cell.CellKind.{CellKind}
use Rattle.plan_core.specs.declared.expr.Expr as code
use Rattle.plan_core.specs.declared.plan.Plan as plan_code
use Rattle.plan_core.specs.Columns.{Rows}
use Rattle.plan_core.specs.ExpressionKind.{IsTyped, expression_kind}
use Rattle.plan_core.specs.PlainExpr.{PlainExpr, expr_of}
use Rattle.plan_core.specs.PlainPlan.{PlainPlan, Filter, Project, Join, Concat, plan_of, leaves, leaf_count}
use Rattle.plan_core.specs.PlanMeaning.{plan_meaning}
use Rattle.plan_core.specs.PlanTyping.{Kinds, plan_kinds, all_there, column_kind, is_truth, is_empty, filter_kinds, project_kinds, join_kinds, concat_kinds}
use Rattle.plan_core.specs.TypedRows.{HaveKinds, AreOfStreams}
use Rattle.plan_core.proofs.ValueKinds.{unless_some}
use Rattle.plan_laws.specs.TypedOn.{IsTypedOn}
use Rattle.plan_laws.proofs.Answers.{both_some, there_front}
use Rattle.plan_laws.proofs.TypedPlans.{and_then, lists_of_parts}

abbrev pub GivesTypedRows : Type 0
GivesTypedRows = (schemas : List Kinds) (plan : PlainPlan) (kinds : Kinds) (lists : List Rows) → plan_kinds schemas plan ≡ Some kinds
    → AreOfStreams schemas (leaves plan) lists → IfOk (plan_meaning plan lists) (HaveKinds kinds)

pub there : {A : Type 0} (o : Option A) → IsSome o → (x : A) × (o ≡ Some x)
there (Some x) is = (x, refl)
there None is = absurd (cc)

pub some_of : {A : Type 0} (o : Option A) (x : A) → o ≡ Some x → IsSome o
some_of o x is = subst IsSome (sym is) refl

-- the rows of a typed child have its kinds
child_rows : GivesTypedRows → (schemas : List Kinds) (child : PlainPlan) (kinds : Kinds) (lists : List Rows) (rows : Rows) → plan_kinds schemas child ≡ Some kinds → AreOfStreams schemas (leaves child) lists
    → plan_meaning child lists ≡ Ok rows → HaveKinds kinds rows
child_rows law schemas child kinds lists rows typed of is = subst (λ r. IfOk r (HaveKinds kinds)) is (law schemas child kinds lists typed of)

-- ---- tests

truth_there : (o : Option CellKind) → is_truth o ≡ true → IsSome o
truth_there (Some k) is = refl
truth_there None is = absurd (cc)

pub test_typed : GivesTypedRows → (child : PlainPlan) (test : PlainExpr) (lists : List Rows) (rows : Rows) → IsTypedOn (Filter child test) lists → plan_meaning child lists ≡ Ok rows
    → All (λ row. IsTyped (map kind_of row) test) rows
test_typed law child test lists rows (schemas, typed, of) is =
    let whole = there (plan_kinds schemas (Filter child test)) typed in
    let k = and_then (filter_kinds test) (plan_kinds schemas child) whole.0 whole.1 in
    let has = child_rows law schemas child k.0 lists rows k.1 of is in
    let test_has = truth_there (expression_kind k.0 test) (cond_some (is_truth (expression_kind k.0 test)) k.0 whole.0 k.2).0 in
    λ i d within. subst (λ kinds. IsTyped kinds test) (sym (has i d within)) test_has

-- ---- columns

kind_there : (o : Option CellKind) (k : Kind) → option_map column_kind o ≡ Some k → IsSome o
kind_there (Some c) k is = refl
kind_there None k is = absurd (cc)

columns_have_kinds : (kinds : Kinds) (columns : List code.Expr) (out : Kinds) → all_there (map (λ e. option_map column_kind (expression_kind kinds e)) (map expr_of columns)) ≡ Some out
    → AllByRecursion (λ column. IsTyped kinds (expr_of column)) columns
columns_have_kinds kinds [] out is = tt
columns_have_kinds kinds (column ∷ columns) out is =
    let front = there_front _ (map (λ e. option_map column_kind (expression_kind kinds e)) (map expr_of columns)) out is in
    (kind_there (expression_kind kinds (expr_of column)) front.0 front.2, columns_have_kinds kinds columns front.1 front.3)

pub columns_typed : GivesTypedRows → (child : PlainPlan) (columns : List code.Expr) (lists : List Rows) (rows : Rows) → IsTypedOn (Project child (map expr_of columns)) lists → plan_meaning child lists ≡ Ok rows
    → All (λ row. All (λ column. IsTyped (map kind_of row) (expr_of column)) columns) rows
columns_typed law child columns lists rows (schemas, typed, of) is =
    let whole = there (plan_kinds schemas (Project child (map expr_of columns))) typed in
    let k = and_then (project_kinds (map expr_of columns)) (plan_kinds schemas child) whole.0 whole.1 in
    let has = child_rows law schemas child k.0 lists rows k.1 of is in
    let all = All-from_recursion (λ column. IsTyped k.0 (expr_of column)) columns (columns_have_kinds k.0 columns whole.0 (unless_some (is_empty (map expr_of columns)) _ whole.0 k.2)) in
    λ i d within. subst (λ kinds. All (λ column. IsTyped kinds (expr_of column)) columns) (sym (has i d within)) all

-- ---- two parts

pub record AreTypedParts (left right : PlainPlan) (lists : List Rows) : Type 0 where
  pub enough : leaf_count left ≤ length lists
  pub left_typed : IsTypedOn left (take (leaf_count left) lists)
  pub right_typed : IsTypedOn right (drop (leaf_count left) lists)

at_least : (schemas : List Kinds) (left right : List ℕ) (lists : List Rows) → AreOfStreams schemas (left ++ right) lists → length left ≤ length lists
at_least schemas [] right lists of = omega arith
at_least schemas (stream ∷ left) right [] of = absurd of
at_least schemas (stream ∷ left) right (rows ∷ lists) of = omega (arith, at_least schemas left right lists of.1)

parts_of : (schemas : List Kinds) (left right : PlainPlan) (lists : List Rows) → IsSome (plan_kinds schemas left) → IsSome (plan_kinds schemas right) → AreOfStreams schemas (leaves left ++ leaves right) lists → AreTypedParts left right lists
parts_of schemas left right lists l r of =
    let both = lists_of_parts schemas (leaves left) (leaves right) lists of in
    record { enough = at_least schemas (leaves left) (leaves right) lists of; left_typed = (schemas, l, both.0); right_typed = (schemas, r, both.1) }

pub join_parts : (left right : PlainPlan) (on : List (ℕ × ℕ)) (lists : List Rows) → IsTypedOn (Join left right on) lists → AreTypedParts left right lists
join_parts left right on lists (schemas, typed, of) =
    let whole = there (plan_kinds schemas (Join left right on)) typed in
    let k = both_some (join_kinds on) (plan_kinds schemas left) (plan_kinds schemas right) whole.0 whole.1 in
    parts_of schemas left right lists (some_of _ k.0 k.2) (some_of _ k.1 k.3) of

pub concat_parts : (left right : PlainPlan) (lists : List Rows) → IsTypedOn (Concat left right) lists → AreTypedParts left right lists
concat_parts left right lists (schemas, typed, of) =
    let whole = there (plan_kinds schemas (Concat left right)) typed in
    let k = both_some concat_kinds (plan_kinds schemas left) (plan_kinds schemas right) whole.0 whole.1 in
    parts_of schemas left right lists (some_of _ k.0 k.2) (some_of _ k.1 k.3) of

-- ---- plans of the code

pub typed_as : (p q : plan_code.Plan) (lists others : List Rows) → p ≡ q → lists ≡ others → IsTypedOn (plan_of q) others → IsTypedOn (plan_of p) lists
typed_as p q lists others same_plan same_lists typed = subst (λ l. IsTypedOn (plan_of p) l) (sym same_lists) (subst (λ r. IsTypedOn (plan_of r) others) (sym same_plan) typed)

pub meaning_as : (p q : plan_code.Plan) (lists : List Rows) (rows others : Rows) → p ≡ q → rows ≡ others → plan_meaning (plan_of p) lists ≡ Ok others → plan_meaning (plan_of q) lists ≡ Ok rows
meaning_as p q lists rows others same_plan same_rows is = ap (λ r. plan_meaning (plan_of r) lists) (sym same_plan) ∙ is ∙ ap Ok (sym same_rows)
