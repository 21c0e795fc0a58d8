-- A bound plan with a typing has a row for each call.
use Rattle.std.proofs.Common.{◌≡◌, ◌∙◌, refl, sym, ap, ℕ, Bool, true, false, cond, List, [], ◌∷◌, map, Option, None, Some, Ok}
use Rattle.std.proofs.lemmas.Bool.{false≢true, or_from}
use Rattle.std.specs.Option.{option_and_then, is_none, is_some}
use Rattle.std.specs.List.{list_any}
use Rattle.rows_core.specs.declared.schema.Column as schema
use Rattle.rows_core.specs.Schema.{kinds_of}
use Rattle.scalar_ops.specs.declared.cell.CellKind.{CellKind}
use Rattle.scalar_ops.specs.declared.cell.CellKind.TheVariants as kind
use Rattle.scalar_ops.specs.declared.table.Op.{Op}
use Rattle.plan_core.specs.PlainExpr as bound
use Rattle.plan_core.specs.PlainPlan.{PlainPlan}
use Rattle.plan_core.specs.ExpressionKind.{of_both, call_kind, both_truths, choice_kind, expression_kind}
use Rattle.plan_core.specs.PlanTyping.{Kinds, all_there, is_empty, is_truth, column_kind, column_kind_of, plan_kinds, filter_kinds, project_kinds, group_kinds, join_kinds, concat_kinds, order_kinds}
use Rattle.plan_text.specs.declared.operator.Operator.{Operator}
use Rattle.plan_text.specs.declared.operator.Operator.TheVariants as operator
use Rattle.plan_text.specs.PlainNamed as named
use Rattle.plan_text.specs.PlainNamed.{PlainColumn, PlainTree}
use Rattle.plan_binder.specs.OpRows.{row_for}
use Rattle.plan_binder.specs.Binding.{Names, Bound, call1, call2, operated, of_two, of_three, bound_expr, bound_tree, absent_stream, present_or, plan_or_ill_typed, binding}
use Rattle.plan_binder.specs.CallRows.{has_no_row, operator_lacks_row, bound_kind, lacks_row, test_lacks_row, columns_lack_row, plan_lacks_row}
use Rattle.plan_binder.proofs.OpRowLaws.{chosen_found}
use Rattle.plan_core.proofs.ValueKinds.{then_some, map_some, both_some, unless_some}
use Rattle.plan_binder.proofs.BoundPlans.{BoundAs, scan, filter, select, distinct, group, join, concat, order, parts, bound_kinds}

-- what is refused wherever it is found isn't there
pub not_there : {A : Type 0} (o : Option A) (lacks : Bool) → ((x : A) → o ≡ Some x → lacks ≡ false) → lacks ≡ true → o ≡ None
not_there None lacks refused e = refl
not_there (Some x) lacks refused e = absurd (false≢true (sym (refused x refl) ∙ e))

-- two parts of a list that is all there
pub record AreAll {A : Type 0} (o : Option A) (os : List (Option A)) (ys : List A) : Type 0 where
  pub first : A
  pub others : List A
  pub first_there : o ≡ Some first
  pub others_there : all_there os ≡ Some others
  pub both : ys ≡ first ∷ others

pub all_cons : {A : Type 0} (o : Option A) (os : List (Option A)) (ys : List A) → all_there (o ∷ os) ≡ Some ys → AreAll o os ys
all_cons None os ys e = absurd cc
all_cons (Some x) os ys e = go (all_there os) refl e
  where
    go : (p : Option (List _)) → all_there os ≡ p → option_and_then (λ others. Some (x ∷ others)) p ≡ Some ys → AreAll (Some x) os ys
    go None there h = absurd cc
    go (Some zs) there h = record { first = x; others = zs; first_there = refl; others_there = there; both = cc }

-- ---- one call

call_row : (op : Op) (ks : List CellKind) (k : CellKind) → call_kind (row_for op (map Some ks)) ks ≡ Some k → has_no_row op (map Some ks) ≡ false
call_row op ks k typed = ap is_none (chosen_found op ks (ap is_some typed))

call1_row : (kinds : Kinds) (op : Op) (a : bound.PlainExpr) (k : CellKind)
    → expression_kind kinds (call1 kinds op a) ≡ Some k → has_no_row op (expression_kind kinds a ∷ []) ≡ false
call1_row kinds op a k typed = go (expression_kind kinds a) typed
  where
    go : (o : Option CellKind) → option_and_then (λ j. call_kind (row_for op (o ∷ [])) (j ∷ [])) o ≡ Some k → has_no_row op (o ∷ []) ≡ false
    go None e = absurd cc
    go (Some j) e = call_row op (j ∷ []) k e

call2_row : (kinds : Kinds) (op : Op) (a b : bound.PlainExpr) (k : CellKind)
    → expression_kind kinds (call2 kinds op a b) ≡ Some k → has_no_row op (expression_kind kinds a ∷ expression_kind kinds b ∷ []) ≡ false
call2_row kinds op a b k typed = go (expression_kind kinds a) (expression_kind kinds b) (unless_some _ _ k typed)
  where
    go : (o p : Option CellKind) → of_both (λ j l. call_kind (row_for op (o ∷ p ∷ [])) (j ∷ l ∷ [])) o p ≡ Some k → has_no_row op (o ∷ p ∷ []) ≡ false
    go (Some j) (Some l) e = call_row op (j ∷ l ∷ []) k e
    go (Some j) None e = absurd cc
    go None p e = absurd cc

pub one_call : (kinds : Kinds) (op : Op) (a : bound.PlainExpr)
    → has_no_row op (expression_kind kinds a ∷ []) ≡ true → expression_kind kinds (call1 kinds op a) ≡ None
one_call kinds op a = not_there (expression_kind kinds (call1 kinds op a)) (has_no_row op (expression_kind kinds a ∷ [])) (call1_row kinds op a)

pub two_call : (kinds : Kinds) (op : Op) (a b : bound.PlainExpr)
    → has_no_row op (expression_kind kinds a ∷ expression_kind kinds b ∷ []) ≡ true → expression_kind kinds (call2 kinds op a b) ≡ None
two_call kinds op a b =
    not_there (expression_kind kinds (call2 kinds op a b)) (has_no_row op (expression_kind kinds a ∷ expression_kind kinds b ∷ [])) (call2_row kinds op a b)

-- ---- expressions

both_typed : (o p : Option CellKind) (k : CellKind) → both_truths o p ≡ Some k → (j : CellKind) × (l : CellKind) × ((o ≡ Some j) × (p ≡ Some l))
both_typed (Some kind.Bool) (Some kind.Bool) k e = (kind.Bool, kind.Bool, (refl, refl))
both_typed _ _ k e = absurd cc

record AllTyped (o p q : Option CellKind) : Type 0 where
  test : CellKind
  first : CellKind
  second : CellKind
  test_kind : o ≡ Some test
  first_kind : p ≡ Some first
  second_kind : q ≡ Some second

choice_typed : (o p q : Option CellKind) (k : CellKind) → choice_kind o p q ≡ Some k → AllTyped o p q
choice_typed (Some kind.Bool) (Some j) (Some l) k e =
    record { test = kind.Bool; first = j; second = l; test_kind = refl; first_kind = refl; second_kind = refl }
choice_typed _ _ _ k e = absurd cc

pub record AreTwo (make : bound.PlainExpr → bound.PlainExpr → bound.PlainExpr) (o p : Option bound.PlainExpr) (x : bound.PlainExpr) : Type 0 where
  pub left : bound.PlainExpr
  pub right : bound.PlainExpr
  pub left_there : o ≡ Some left
  pub right_there : p ≡ Some right
  pub gives : make left right ≡ x

pub two_some : (make : bound.PlainExpr → bound.PlainExpr → bound.PlainExpr) (o p : Option bound.PlainExpr) (x : bound.PlainExpr)
    → of_two make o p ≡ Some x → AreTwo make o p x
two_some make (Some y) (Some z) x e = record { left = y; right = z; left_there = refl; right_there = refl; gives = cc }
two_some make (Some y) None x e = absurd cc
two_some make None p x e = absurd cc

pub record AreThree (o p q : Option bound.PlainExpr) (x : bound.PlainExpr) : Type 0 where
  pub test : bound.PlainExpr
  pub first : bound.PlainExpr
  pub second : bound.PlainExpr
  pub test_there : o ≡ Some test
  pub first_there : p ≡ Some first
  pub second_there : q ≡ Some second
  pub gives : bound.If test first second ≡ x

pub three_some : (o p q : Option bound.PlainExpr) (x : bound.PlainExpr) → of_three bound.If o p q ≡ Some x → AreThree o p q x
three_some (Some t) (Some y) (Some z) x e =
    record { test = t; first = y; second = z; test_there = refl; first_there = refl; second_there = refl; gives = cc }
three_some (Some t) (Some y) None x e = absurd cc
three_some (Some t) None q x e = absurd cc
three_some None p q x e = absurd cc

module _ (names : Names) (kinds : Kinds) where
  abbrev HasRows : named.PlainExpr → Type 0
  HasRows e = (x : bound.PlainExpr) (k : CellKind) → bound_expr names kinds e ≡ Some x → expression_kind kinds x ≡ Some k → lacks_row names kinds e ≡ false

  kind_there : (e : named.PlainExpr) (x : bound.PlainExpr) → bound_expr names kinds e ≡ Some x → expression_kind kinds x ≡ bound_kind names kinds e
  kind_there e x is = sym (ap (option_and_then (expression_kind kinds)) is)

  operands_typed : (o : Operator) (x y : bound.PlainExpr) (k : CellKind) → expression_kind kinds (operated kinds o x y) ≡ Some k
      → (operator_lacks_row o (expression_kind kinds x) (expression_kind kinds y) ≡ false)
      × ((j : CellKind) × (l : CellKind) × ((expression_kind kinds x ≡ Some j) × (expression_kind kinds y ≡ Some l)))
  operands_typed (operator.Call op) x y k typed =
      let its = both_some _ (expression_kind kinds x) (expression_kind kinds y) k (unless_some _ _ k typed) in
      (call2_row kinds op x y k typed, (its.left, its.right, (its.left_there, its.right_there)))
  operands_typed operator.And x y k typed = (refl, both_typed (expression_kind kinds x) (expression_kind kinds y) k typed)
  operands_typed operator.Or x y k typed = (refl, both_typed (expression_kind kinds x) (expression_kind kinds y) k typed)

  typed_rows : (e : named.PlainExpr) → HasRows e
  typed_rows (named.Column name) x k is typed = refl
  typed_rows (named.Literal c) x k is typed = refl
  typed_rows (named.Call1 op a) x k is typed =
      let arg = map_some (call1 kinds op) (bound_expr names kinds a) x is in
      let call : expression_kind kinds (call1 kinds op arg.0) ≡ Some k = ap (expression_kind kinds) arg.1.1 ∙ typed in
      let its = then_some _ (expression_kind kinds arg.0) k call in
      or_from _ _ (ap (λ o. has_no_row op (o ∷ [])) (sym (kind_there a arg.0 arg.1.0)) ∙ call1_row kinds op arg.0 k call) (typed_rows a arg.0 its.0 arg.1.0 its.1.0)
  typed_rows (named.Binary o a b) x k is typed =
      let args = two_some (operated kinds o) (bound_expr names kinds a) (bound_expr names kinds b) x is in
      let its = operands_typed o args.left args.right k (ap (expression_kind kinds) args.gives ∙ typed) in
      or_from _ _
      (or_from _ _
      ((λ i. operator_lacks_row o (sym (kind_there a args.left args.left_there) i) (sym (kind_there b args.right args.right_there) i)) ∙ its.0)
      (typed_rows a args.left its.1.0 args.left_there its.1.2.0))
      (typed_rows b args.right its.1.1 args.right_there its.1.2.1)
  typed_rows (named.If c a b) x k is typed =
      let parts = three_some (bound_expr names kinds c) (bound_expr names kinds a) (bound_expr names kinds b) x is in
      let its = choice_typed (expression_kind kinds parts.test) (expression_kind kinds parts.first) (expression_kind kinds parts.second) k
      (ap (expression_kind kinds) parts.gives ∙ typed) in
      or_from _ _
      (or_from _ _ (typed_rows c parts.test its.test parts.test_there its.test_kind) (typed_rows a parts.first its.first parts.first_there its.first_kind))
      (typed_rows b parts.second its.second parts.second_there its.second_kind)

  pub call_inside : (e : named.PlainExpr) (x : bound.PlainExpr) → bound_expr names kinds e ≡ Some x → lacks_row names kinds e ≡ true → expression_kind kinds x ≡ None
  call_inside e x is = not_there (expression_kind kinds x) (lacks_row names kinds e) (λ k typed. typed_rows e x k is typed)

  columns_rows : (columns : List PlainColumn) (exprs : List bound.PlainExpr) (ks : Kinds)
      → all_there (map (λ column. bound_expr names kinds column.expr) columns) ≡ Some exprs → all_there (map (column_kind_of kinds) exprs) ≡ Some ks
      → list_any (λ column. lacks_row names kinds column.expr) columns ≡ false
  columns_rows [] exprs ks is typed = refl
  columns_rows (column ∷ columns) exprs ks is typed =
      let bounds = all_cons (bound_expr names kinds column.expr) (map (λ c. bound_expr names kinds c.expr) columns) exprs is in
      let typeds = all_cons (column_kind_of kinds bounds.first) (map (column_kind_of kinds) bounds.others) ks
      (ap (λ (es : List bound.PlainExpr). all_there (map (column_kind_of kinds) es)) (sym bounds.both) ∙ typed) in
      let its = map_some column_kind (expression_kind kinds bounds.first) typeds.first typeds.first_there in
      or_from _ _ (typed_rows column.expr bounds.first its.0 bounds.first_there its.1.0)
      (columns_rows columns bounds.others typeds.others bounds.others_there typeds.others_there)

-- ---- plans

truth_typed : {A : Type 0} (o : Option CellKind) (x y : A) → cond (is_truth o) (Some x) None ≡ Some y → (k : CellKind) × (o ≡ Some k)
truth_typed (Some k) x y e = (k, refl)
truth_typed None x y e = absurd cc

module _ (streams : Names) (schemas : List (List schema.Column)) where
  abbrev lacks : PlainTree → Bool
  lacks tree = plan_lacks_row streams schemas tree

  abbrev typing : PlainPlan → Option Kinds
  typing plan = plan_kinds (map kinds_of schemas) plan

  abbrev bound_to : PlainTree → Option Bound
  bound_to tree = bound_tree streams schemas tree

  rows : {tree : PlainTree} {b : Bound} → BoundAs streams schemas tree b → (kinds : Kinds) → typing b.plan ≡ Some kinds → lacks tree ≡ false
  rows (scan at there) = λ kinds typed. refl
  rows (filter {child = child} {test = test} {input = input} {e = e} is x at) = λ kinds typed.
      let its = then_some (filter_kinds e) (typing input.plan) kinds typed in
      let same = bound_kinds streams schemas child input is its.0 its.1.0 in
      let truth = truth_typed (expression_kind its.0 e) its.0 kinds its.1.1 in
      or_from _ _
      (ap (test_lacks_row test) is ∙ typed_rows input.names input.kinds test e truth.0 at (ap (λ (ks : Kinds). expression_kind ks e) same ∙ truth.1))
      (rows x its.0 its.1.0)
  rows (select {child = child} {columns = columns} {input = input} {exprs = exprs} is x there) = λ kinds typed.
      let its = then_some (project_kinds exprs) (typing input.plan) kinds typed in
      let same = bound_kinds streams schemas child input is its.0 its.1.0 in
      or_from _ _
      (ap (columns_lack_row columns) is
      ∙ columns_rows input.names input.kinds columns exprs kinds there
      (ap (λ (ks : Kinds). all_there (map (column_kind_of ks) exprs)) same ∙ unless_some (is_empty exprs) (all_there (map (column_kind_of its.0) exprs)) kinds its.1.1))
      (rows x its.0 its.1.0)
  rows (distinct x) = λ kinds typed. rows x kinds typed
  rows (group {input = input} {places = places} {aggs = aggs} x) = λ kinds typed.
      let its = then_some (group_kinds places aggs) (typing input.plan) kinds typed in
      rows x its.0 its.1.0
  rows (join {l = l} {r = r} {pairs = pairs} x y) = λ kinds typed.
      let its = both_some (join_kinds pairs) (typing l.plan) (typing r.plan) kinds typed in
      or_from _ _ (rows x its.left its.left_there) (rows y its.right its.right_there)
  rows (concat {l = l} {r = r} x y) = λ kinds typed.
      let its = both_some concat_kinds (typing l.plan) (typing r.plan) kinds typed in
      or_from _ _ (rows x its.left its.left_there) (rows y its.right its.right_there)
  rows (order {input = input} {places = places} x) = λ kinds typed.
      let its = then_some (order_kinds places) (typing input.plan) kinds typed in
      rows x its.0 its.1.0

  pub bound_plan : (tree : PlainTree) (plan : PlainPlan) → binding streams schemas tree ≡ Ok plan → (b : Bound) × ((bound_to tree ≡ Some b) × (b.plan ≡ plan))
  bound_plan tree plan is = go (absent_stream streams tree) (bound_to tree) refl is
    where
      go : (absent : Option (List ℕ)) (o : Option Bound) → bound_to tree ≡ o → present_or absent (plan_or_ill_typed o) ≡ Ok plan
          → (b : Bound) × ((bound_to tree ≡ Some b) × (b.plan ≡ plan))
      go None (Some b) there e = (b, (there, cc))
      go None None there e = absurd cc
      go (Some stream) o there e = absurd cc

  pub plan_without_row : (tree : PlainTree) (plan : PlainPlan) → binding streams schemas tree ≡ Ok plan → lacks tree ≡ true → typing plan ≡ None
  plan_without_row tree plan is =
      let b = bound_plan tree plan is in
      not_there (typing plan) (lacks tree) (λ kinds typed. rows (parts streams schemas tree b.0 b.1.0) kinds (ap typing b.1.1 ∙ typed))
