-- How many nodes a plan has, how many nodes its expressions have, and how far these stand one within another.
use Rattle.std.specs.Prelude.{ℕ, ◌+◌, max, List, [], ◌∷◌}
use Rattle.plan_core.specs.PlainExpr.{PlainExpr, Column, Literal, Call1, Call2, And, Or, If}
use Rattle.plan_core.specs.PlainPlan.{PlainPlan, Scan, Filter, Project, Distinct, Group, Join, Concat, Order}

-- the nodes of an expression
abbrev pub size : PlainExpr → ℕ
size (Column i) = 1
size (Literal c) = 1
size (Call1 row a) = 1 + size a
size (Call2 row a b) = 1 + size a + size b
size (And a b) = 1 + size a + size b
size (Or a b) = 1 + size a + size b
size (If c a b) = 1 + size c + size a + size b

abbrev pub sizes : List PlainExpr → ℕ
sizes [] = 0
sizes (e ∷ es) = size e + sizes es

-- the expression nodes of a plan
abbrev pub expr_count : PlainPlan → ℕ
expr_count (Scan stream) = 0
expr_count (Filter p a) = size a + expr_count p
expr_count (Project p es) = sizes es + expr_count p
expr_count (Distinct p) = expr_count p
expr_count (Group p keys aggs) = expr_count p
expr_count (Join p q on) = expr_count p + expr_count q
expr_count (Concat p q) = expr_count p + expr_count q
expr_count (Order p keys) = expr_count p

-- the operators and leaves of a plan
abbrev pub node_count : PlainPlan → ℕ
node_count (Scan stream) = 1
node_count (Filter p a) = 1 + node_count p
node_count (Project p es) = 1 + node_count p
node_count (Distinct p) = 1 + node_count p
node_count (Group p keys aggs) = 1 + node_count p
node_count (Join p q on) = 1 + node_count p + node_count q
node_count (Concat p q) = 1 + node_count p + node_count q
node_count (Order p keys) = 1 + node_count p

-- the nodes on the longest way down, a leaf counted
abbrev pub expr_nesting : PlainExpr → ℕ
expr_nesting (Column i) = 1
expr_nesting (Literal c) = 1
expr_nesting (Call1 row a) = 1 + expr_nesting a
expr_nesting (Call2 row a b) = 1 + max (expr_nesting a) (expr_nesting b)
expr_nesting (And a b) = 1 + max (expr_nesting a) (expr_nesting b)
expr_nesting (Or a b) = 1 + max (expr_nesting a) (expr_nesting b)
expr_nesting (If c a b) = 1 + max (expr_nesting c) (max (expr_nesting a) (expr_nesting b))

abbrev pub greatest_nesting : List PlainExpr → ℕ
greatest_nesting [] = 0
greatest_nesting (e ∷ es) = max (expr_nesting e) (greatest_nesting es)

-- the nodes on the longest way down, through expressions too, a leaf counted
abbrev pub nesting : PlainPlan → ℕ
nesting (Scan stream) = 1
nesting (Filter p a) = 1 + max (nesting p) (expr_nesting a)
nesting (Project p es) = 1 + max (nesting p) (greatest_nesting es)
nesting (Distinct p) = 1 + nesting p
nesting (Group p keys aggs) = 1 + nesting p
nesting (Join p q on) = 1 + max (nesting p) (nesting q)
nesting (Concat p q) = 1 + max (nesting p) (nesting q)
nesting (Order p keys) = 1 + nesting p
