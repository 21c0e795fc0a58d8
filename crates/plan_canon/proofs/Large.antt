-- A normal plan isn't large: a test moves to each leaf below it at most once, and columns over columns take no more room
-- than both had.
use Rattle.std.proofs.Common.{◌≡◌, refl, sym, ap, subst, ℕ, ◌+◌, ◌*◌, ◌≤◌, Bool, true, false, cond, List, ◌++◌, length, map, length-append, mul-le-mul_left, mul-le-mul_right, le_trans, arith}
use Rattle.plan_core.specs.PlainExpr.{PlainExpr}
use Rattle.plan_core.specs.PlainPlan.{PlainPlan, Scan, Filter, Project, Distinct, Group, Join, Concat, Order, leaves, leaf_count}
use Rattle.plan_core.specs.PlanTyping.{Kinds}
use Rattle.plan_core.specs.Nesting.{size, sizes, expr_count, node_count}
use Rattle.plan_canon.specs.ExprRules.{is_true}
use Rattle.plan_canon.specs.PlanRules.{width, may_fuse, put_in, are_columns}
use Rattle.plan_canon.specs.NormalExpr.{and_of, normal_expr, normal_exprs}
use Rattle.plan_canon.specs.NormalPlan.{filter_of, project_last, project_of, normal_plan}
use Rattle.plan_canon.proofs.Depth.{and_size, normal_size, normal_sizes, fused_size}
use Rattle.plan_canon.proofs.NormalPlans.{plan_ends}
use Rattle.plan_canon.proofs.StepTyping.{all_steps_leaves}

more_leaves : (p q : PlainPlan) → length (leaves p ++ leaves q) ≡ leaf_count p + leaf_count q
more_leaves p q = length-append (leaves p) (leaves q)

some_leaf : (p : PlainPlan) → 1 ≤ leaf_count p
some_leaf (Scan stream) = omega arith
some_leaf (Filter p a) = some_leaf p
some_leaf (Project p es) = some_leaf p
some_leaf (Distinct p) = some_leaf p
some_leaf (Group p keys aggs) = some_leaf p
some_leaf (Join p q on) = omega (arith, some_leaf p, more_leaves p q)
some_leaf (Concat p q) = omega (arith, some_leaf p, more_leaves p q)
some_leaf (Order p keys) = some_leaf p

-- ---- operators and leaves

nodes_filter : (p : PlainPlan) (a : PlainExpr) → node_count (filter_of p a) ≤ node_count p + leaf_count p
nodes_filter (Filter p b) a = omega (arith, nodes_filter p (and_of b a))
nodes_filter (Concat p q) a = omega (arith, nodes_filter p a, nodes_filter q a, more_leaves p q)
nodes_filter (Order p keys) a = omega (arith, nodes_filter p a)
nodes_filter (Distinct p) a = omega (arith, nodes_filter p a)
nodes_filter p a = by (is_true a)
  where
    by : (t : Bool) → node_count (cond t p (Filter p a)) ≤ node_count p + leaf_count p
    by true = omega arith
    by false = omega (arith, some_leaf p)

-- two plans under one operator
two_counts : (l m n k x y : ℕ) → 1 ≤ l → x ≤ l * n → y ≤ m * k → 1 + x + y ≤ (l + m) * (1 + n + k)
two_counts l m n k x y some p q = omega (arith, some, p, q)

-- ---- expression nodes

-- the room for the tests, once for each leaf with an `and`, and for the columns
abbrev spread : PlainPlan → ℕ
spread (Scan stream) = 0
spread (Filter p a) = leaf_count p * (1 + size a) + spread p
spread (Project p es) = sizes es + spread p
spread (Distinct p) = spread p
spread (Group p keys aggs) = spread p
spread (Join p q on) = spread p + spread q
spread (Concat p q) = spread p + spread q
spread (Order p keys) = spread p

spread_filter : (p : PlainPlan) (a : PlainExpr) → spread (filter_of p a) ≤ leaf_count p * (1 + size a) + spread p
spread_filter (Filter p b) a = omega (arith, spread_filter p (and_of b a), mul-le-mul_left (leaf_count p) (and_size b a))
spread_filter (Concat p q) a =
    subst (λ l. spread (filter_of p a) + spread (filter_of q a) ≤ l * (1 + size a) + (spread p + spread q)) (sym (more_leaves p q))
    (omega (arith, spread_filter p a, spread_filter q a))
spread_filter (Order p keys) a = spread_filter p a
spread_filter (Distinct p) a = spread_filter p a
spread_filter p a = by (is_true a)
  where
    by : (t : Bool) → spread (cond t p (Filter p a)) ≤ leaf_count p * (1 + size a) + spread p
    by true = omega arith
    by false = omega arith

exprs_spread : (p : PlainPlan) → expr_count p ≤ spread p
exprs_spread (Scan stream) = omega arith
exprs_spread (Filter p a) = omega (arith, exprs_spread p, mul-le-mul_right (1 + size a) (some_leaf p))
exprs_spread (Project p es) = omega (arith, exprs_spread p)
exprs_spread (Distinct p) = exprs_spread p
exprs_spread (Group p keys aggs) = exprs_spread p
exprs_spread (Join p q on) = omega (arith, exprs_spread p, exprs_spread q)
exprs_spread (Concat p q) = omega (arith, exprs_spread p, exprs_spread q)
exprs_spread (Order p keys) = exprs_spread p

-- the parts of two plans side by side
two_spreads : (l m e f n k x y : ℕ) → x ≤ l * (e + n) → y ≤ m * (f + k) → x + y ≤ (l + m) * (e + f + (1 + n + k))
two_spreads l m e f n k x y p q = omega (arith, p, q)

sides : (p q : PlainPlan) → spread p ≤ leaf_count p * (expr_count p + node_count p) → spread q ≤ leaf_count q * (expr_count q + node_count q)
    → spread p + spread q ≤ length (leaves p ++ leaves q) * (expr_count p + expr_count q + (1 + node_count p + node_count q))
sides p q hp hq =
    subst (λ l. spread p + spread q ≤ l * (expr_count p + expr_count q + (1 + node_count p + node_count q))) (sym (more_leaves p q))
    (two_spreads (leaf_count p) (leaf_count q) (expr_count p) (expr_count q) (node_count p) (node_count q) (spread p) (spread q) hp hq)

spread_counts : (p : PlainPlan) → spread p ≤ leaf_count p * (expr_count p + node_count p)
spread_counts (Scan stream) = omega arith
spread_counts (Filter p a) = omega (arith, spread_counts p)
spread_counts (Project p es) = omega (arith, spread_counts p, mul-le-mul_right (sizes es) (some_leaf p))
spread_counts (Distinct p) = omega (arith, spread_counts p)
spread_counts (Group p keys aggs) = omega (arith, spread_counts p)
spread_counts (Join p q on) = sides p q (spread_counts p) (spread_counts q)
spread_counts (Concat p q) = sides p q (spread_counts p) (spread_counts q)
spread_counts (Order p keys) = omega (arith, spread_counts p)

module _ (schemas : List Kinds) where
  same_leaves : (p : PlainPlan) → leaf_count (normal_plan schemas p) ≡ leaf_count p
  same_leaves p = ap length (all_steps_leaves schemas p (plan_ends schemas p).0 refl)

  nodes_last : (p : PlainPlan) (fs : List PlainExpr) → node_count (project_last schemas p fs) ≤ 1 + node_count p
  nodes_last p fs = by (are_columns (width schemas p) fs)
    where
      by : (t : Bool) → node_count (cond t p (Project p fs)) ≤ 1 + node_count p
      by true = omega arith
      by false = omega arith

  nodes_project : (p : PlainPlan) (fs : List PlainExpr) → node_count (project_of schemas p fs) ≤ 1 + node_count p
  nodes_project (Project p es) fs = by (may_fuse es fs) (nodes_project p (normal_exprs (map (put_in es) fs)))
    where
      by : (t : Bool) → node_count (project_of schemas p (normal_exprs (map (put_in es) fs))) ≤ 1 + node_count p
          → node_count (cond t (project_of schemas p (normal_exprs (map (put_in es) fs))) (project_last schemas (Project p es) fs)) ≤ 1 + (1 + node_count p)
      by true rest = omega (arith, rest)
      by false rest = nodes_last (Project p es) fs
  nodes_project p fs = nodes_last p fs

  pub normal_nodes : (p : PlainPlan) → node_count (normal_plan schemas p) ≤ leaf_count p * node_count p
  normal_nodes (Scan stream) = omega arith
  normal_nodes (Filter p a) = omega (arith, nodes_filter (normal_plan schemas p) (normal_expr a), same_leaves p, normal_nodes p)
  normal_nodes (Project p es) = omega (arith, nodes_project (normal_plan schemas p) (normal_exprs es), some_leaf p, normal_nodes p)
  normal_nodes (Distinct p) = omega (arith, some_leaf p, normal_nodes p)
  normal_nodes (Group p keys aggs) = omega (arith, some_leaf p, normal_nodes p)
  normal_nodes (Join p q on) =
      subst (λ l. 1 + node_count (normal_plan schemas p) + node_count (normal_plan schemas q) ≤ l * (1 + node_count p + node_count q)) (sym (more_leaves p q))
      (two_counts (leaf_count p) (leaf_count q) (node_count p) (node_count q) _ _ (some_leaf p) (normal_nodes p) (normal_nodes q))
  normal_nodes (Concat p q) =
      subst (λ l. 1 + node_count (normal_plan schemas p) + node_count (normal_plan schemas q) ≤ l * (1 + node_count p + node_count q)) (sym (more_leaves p q))
      (two_counts (leaf_count p) (leaf_count q) (node_count p) (node_count q) _ _ (some_leaf p) (normal_nodes p) (normal_nodes q))
  normal_nodes (Order p keys) = omega (arith, some_leaf p, normal_nodes p)

  spread_last : (p : PlainPlan) (fs : List PlainExpr) → spread (project_last schemas p fs) ≤ sizes fs + spread p
  spread_last p fs = by (are_columns (width schemas p) fs)
    where
      by : (t : Bool) → spread (cond t p (Project p fs)) ≤ sizes fs + spread p
      by true = omega arith
      by false = omega arith

  spread_project : (p : PlainPlan) (fs : List PlainExpr) → spread (project_of schemas p fs) ≤ sizes fs + spread p
  spread_project (Project p es) fs = by (may_fuse es fs) refl (spread_project p (normal_exprs (map (put_in es) fs)))
    where
      by : (t : Bool) → may_fuse es fs ≡ t → spread (project_of schemas p (normal_exprs (map (put_in es) fs))) ≤ sizes (normal_exprs (map (put_in es) fs)) + spread p
          → spread (cond t (project_of schemas p (normal_exprs (map (put_in es) fs))) (project_last schemas (Project p es) fs)) ≤ sizes fs + (sizes es + spread p)
      by true e rest = omega (arith, rest, fused_size es fs e)
      by false e rest = spread_last (Project p es) fs
  spread_project p fs = spread_last p fs

  normal_spread : (p : PlainPlan) → spread (normal_plan schemas p) ≤ spread p
  normal_spread (Scan stream) = omega arith
  normal_spread (Filter p a) =
      let moved = subst (λ l. spread (filter_of (normal_plan schemas p) (normal_expr a)) ≤ l * (1 + size (normal_expr a)) + spread (normal_plan schemas p)) (same_leaves p)
      (spread_filter (normal_plan schemas p) (normal_expr a)) in
      omega (arith, moved, mul-le-mul_left (leaf_count p) (normal_size a), normal_spread p)
  normal_spread (Project p es) = omega (arith, spread_project (normal_plan schemas p) (normal_exprs es), normal_sizes es, normal_spread p)
  normal_spread (Distinct p) = normal_spread p
  normal_spread (Group p keys aggs) = normal_spread p
  normal_spread (Join p q on) = omega (arith, normal_spread p, normal_spread q)
  normal_spread (Concat p q) = omega (arith, normal_spread p, normal_spread q)
  normal_spread (Order p keys) = normal_spread p

  pub normal_exprs_few : (p : PlainPlan) → expr_count (normal_plan schemas p) ≤ leaf_count p * (expr_count p + node_count p)
  normal_exprs_few p = le_trans (exprs_spread (normal_plan schemas p)) (le_trans (normal_spread p) (spread_counts p))
