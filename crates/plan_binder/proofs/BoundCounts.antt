-- A bound plan has the counts of the plan that was written, and one leaf more than that has joins and concatenations at most.
use Rattle.std.proofs.Common.{◌≡◌, ◌∙◌, refl, sym, ap, subst, ℕ, ◌+◌, ◌≤◌, List, [], ◌∷◌, ◌++◌, length, map, sum_by, Some, Ok, length-append, arith}
use Rattle.std.proofs.lemmas.List.Sums.{sum_by-cons}
use Rattle.rows_core.specs.declared.schema.Column as schema
use Rattle.plan_core.specs.Nesting.{size, sizes, expr_count, node_count}
use Rattle.plan_core.specs.PlainExpr as bound
use Rattle.plan_core.specs.PlainPlan.{PlainPlan, leaves, leaf_count}
use Rattle.plan_core.specs.PlanTyping.{Kinds, all_there}
use Rattle.plan_core.proofs.ValueKinds.{map_some}
use Rattle.plan_text.specs.declared.operator.Operator.{Operator}
use Rattle.plan_text.specs.declared.operator.Operator.TheVariants as operator
use Rattle.plan_text.specs.Counts.{expr_nodes, nodes, wide_nodes, all_expr_nodes, IsWithinLimits}
use Rattle.plan_text.specs.PlainNamed as named
use Rattle.plan_text.specs.PlainNamed.{PlainColumn, PlainTree}
use Rattle.plan_binder.specs.Binding.{Names, Bound, call1, operated, bound_expr, place_of, binding}
use Rattle.plan_binder.proofs.BoundPlans.{BoundAs, scan, filter, select, distinct, group, join, concat, order, parts}
use Rattle.plan_binder.proofs.CallRowLaws.{two_some, three_some, all_cons, bound_plan}

-- ---- expressions

module _ (names : Names) (kinds : Kinds) where
  operated_size : (o : Operator) (x y : bound.PlainExpr) → size (operated kinds o x y) ≡ 1 + size x + size y
  operated_size (operator.Call op) x y = refl
  operated_size operator.And x y = refl
  operated_size operator.Or x y = refl

  same_size : (e : named.PlainExpr) (x : bound.PlainExpr) → bound_expr names kinds e ≡ Some x → size x ≡ expr_nodes e
  same_size (named.Column name) x is = ap size (sym (map_some bound.Column (place_of names name) x is).1.1)
  same_size (named.Literal c) x is = let same : bound.Literal c ≡ x = cc in ap size (sym same)
  same_size (named.Call1 op a) x is =
      let arg = map_some (call1 kinds op) (bound_expr names kinds a) x is in
      ap size (sym arg.1.1) ∙ ap (λ n. 1 + n) (same_size a arg.0 arg.1.0)
  same_size (named.Binary o a b) x is =
      let args = two_some (operated kinds o) (bound_expr names kinds a) (bound_expr names kinds b) x is in
      ap size (sym args.gives) ∙ operated_size o args.left args.right
      ∙ omega (arith, same_size a args.left args.left_there, same_size b args.right args.right_there)
  same_size (named.If c a b) x is =
      let parts = three_some (bound_expr names kinds c) (bound_expr names kinds a) (bound_expr names kinds b) x is in
      ap size (sym parts.gives)
      ∙ omega (arith, same_size c parts.test parts.test_there, same_size a parts.first parts.first_there, same_size b parts.second parts.second_there)

  same_sizes : (columns : List PlainColumn) (xs : List bound.PlainExpr) → all_there (map (λ column. bound_expr names kinds column.expr) columns) ≡ Some xs
      → sizes xs ≡ sum_by (λ column. expr_nodes column.expr) columns
  same_sizes [] xs is = let same : [] ≡ xs = cc in ap sizes (sym same)
  same_sizes (column ∷ columns) xs is =
      let parts = all_cons (bound_expr names kinds column.expr) (map (λ c. bound_expr names kinds c.expr) columns) xs is in
      ap sizes parts.both
      ∙ omega (arith, same_size column.expr parts.first parts.first_there, same_sizes columns parts.others parts.others_there, sum_by-cons (λ (c : PlainColumn). expr_nodes c.expr) column columns)

-- ---- plans

more_leaves : (p q : PlainPlan) (m n : ℕ) → leaf_count p ≤ 1 + m → leaf_count q ≤ 1 + n → length (leaves p ++ leaves q) ≤ 1 + (1 + (m + n))
more_leaves p q m n hp hq = omega (arith, hp, hq, length-append (leaves p) (leaves q))

abbrev HasCounts : PlainTree → PlainPlan → Type 0
HasCounts tree plan = (node_count plan ≡ nodes tree) × (expr_count plan ≡ all_expr_nodes tree) × (leaf_count plan ≤ 1 + wide_nodes tree)

module _ (streams : Names) (schemas : List (List schema.Column)) where
  counts : {tree : PlainTree} {b : Bound} → BoundAs streams schemas tree b → HasCounts tree b.plan
  counts (scan at there) = (refl, refl, omega arith)
  counts (filter {test = test} {input = input} {e = e} is x at) =
      let here = counts x in (ap (λ n. 1 + n) here.0, omega (arith, here.1, same_size input.names input.kinds test e at), here.2)
  counts (select {columns = columns} {input = input} {exprs = exprs} is x there) =
      let here = counts x in (ap (λ n. 1 + n) here.0, omega (arith, here.1, same_sizes input.names input.kinds columns exprs there), here.2)
  counts (distinct x) = let here = counts x in (ap (λ n. 1 + n) here.0, here.1, omega (arith, here.2))
  counts (group x) = let here = counts x in (ap (λ n. 1 + n) here.0, here.1, here.2)
  counts (join {l = l} {r = r} x y) =
      let one = counts x in
      let other = counts y in
      (omega (arith, one.0, other.0), omega (arith, one.1, other.1), more_leaves l.plan r.plan _ _ one.2 other.2)
  counts (concat {l = l} {r = r} x y) =
      let one = counts x in
      let other = counts y in
      (omega (arith, one.0, other.0), omega (arith, one.1, other.1), more_leaves l.plan r.plan _ _ one.2 other.2)
  counts (order x) = let here = counts x in (ap (λ n. 1 + n) here.0, here.1, here.2)

  pub plan_counts : (tree : PlainTree) (plan : PlainPlan) → binding streams schemas tree ≡ Ok plan → HasCounts tree plan
  plan_counts tree plan is =
      let b = bound_plan streams schemas tree plan is in
      subst (HasCounts tree) b.1.1 (counts (parts streams schemas tree b.0 b.1.0))

  pub counts_within : (tree : PlainTree) (plan : PlainPlan) → binding streams schemas tree ≡ Ok plan → IsWithinLimits tree → (node_count plan ≤ 40) × (expr_count plan ≤ 512) × (leaf_count plan ≤ 9)
  counts_within tree plan is within =
      let has = plan_counts tree plan is in
      (omega (arith, has.0, within.0), omega (arith, has.1, within.2), omega (arith, has.2, within.1))
