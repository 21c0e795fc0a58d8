-- A plan has no more parts than its spelling has bytes.
use Rattle.std.proofs.Common.{◌≡◌, ℕ, ◌≤◌, List, [], ◌∷◌, ◌++◌, length, ap, arith}
use Rattle.std.specs.Int.{w32, to_be_bytes}
use Rattle.std.specs.List.{flat_map, sum_by}
use Rattle.std.proofs.lemmas.List.{length-append}
use Rattle.std.proofs.lemmas.List.Sums.{sum_by-cons}
use Rattle.scalar_ops.specs.declared.cell.Cell.{Cell}
use Rattle.scalar_ops.specs.declared.cell.Cell.TheVariants as cell
use Rattle.plan_core.specs.declared.agg.Agg.{Agg}
use Rattle.plan_core.specs.declared.agg.Agg.TheVariants as agg
use Rattle.plan_core.specs.PlainExpr.{PlainExpr, Column, Literal, Call1, Call2, And, Or, If}
use Rattle.plan_core.specs.PlainPlan.{PlainPlan, Scan, Filter, Project, Distinct, Group, Join, Concat, Order}
use Rattle.plan_spelling.specs.Spelling.{counted, cell_spelling, expr_spelling, agg_spelling, pair_spelling, key_spelling, plan_spelling}
use Rattle.plan_spelling.specs.Parts.{cell_parts, expr_parts, plan_parts}

-- ---- lists

-- items of one byte or more each
pub items_few : {A : Type 0} (spell : A → List ℕ) → ((a : A) → 1 ≤ length (spell a)) → (items : List A) → length items ≤ length (flat_map spell items)
items_few spell each [] = omega arith
items_few spell each (a ∷ items) = omega (arith, length-append (spell a) (flat_map spell items), each a, items_few spell each items)

-- items of as many parts as bytes, at most
pub sum_few : {A : Type 0} (parts : A → ℕ) (spell : A → List ℕ) → ((a : A) → parts a ≤ length (spell a)) → (items : List A) → sum_by parts items ≤ length (flat_map spell items)
sum_few parts spell each [] = omega arith
sum_few parts spell each (a ∷ items) = omega (arith, sum_by-cons parts a items, length-append (spell a) (flat_map spell items), each a, sum_few parts spell each items)

agg_some : (a : Agg) → 1 ≤ length (agg_spelling a)
agg_some agg.Count = omega arith
agg_some (agg.Sum column) = omega arith
agg_some (agg.Min column) = omega arith
agg_some (agg.Max column) = omega arith
agg_some (agg.First column) = omega arith
agg_some (agg.Last column) = omega arith
agg_some (agg.Avg column) = omega arith

-- ---- expressions

cell_few : (c : Cell) → cell_parts c ≤ length (cell_spelling c)
cell_few (cell.Int n) = omega arith
cell_few (cell.Text t) = omega arith
cell_few (cell.Bool b) = omega arith

pub expr_few : (e : PlainExpr) → expr_parts e ≤ length (expr_spelling e)
expr_few (Column column) = omega arith
expr_few (Literal c) = cell_few c
expr_few (Call1 row a) = omega (arith, expr_few a)
expr_few (Call2 row a b) = omega (arith, length-append (expr_spelling a) (expr_spelling b), expr_few a, expr_few b)
expr_few (And a b) = omega (arith, length-append (expr_spelling a) (expr_spelling b), expr_few a, expr_few b)
expr_few (Or a b) = omega (arith, length-append (expr_spelling a) (expr_spelling b), expr_few a, expr_few b)
expr_few (If test a b) =
    omega (
      arith,
      length-append (expr_spelling test) (expr_spelling a ++ expr_spelling b),
      length-append (expr_spelling a) (expr_spelling b),
      expr_few test,
      expr_few a,
      expr_few b,
    )

-- ---- plans

pub plan_few : (p : PlainPlan) → plan_parts p ≤ length (plan_spelling p)
plan_few (Scan stream) = omega arith
plan_few (Filter child test) = omega (arith, length-append (plan_spelling child) (expr_spelling test), plan_few child, expr_few test)
plan_few (Project child columns) =
    omega (
      arith,
      length-append (plan_spelling child) (counted expr_spelling columns),
      plan_few child,
      sum_few expr_parts expr_spelling expr_few columns,
    )
plan_few (Distinct child) = omega (arith, plan_few child)
plan_few (Group child keys aggs) =
    omega (
      arith,
      length-append (plan_spelling child) (counted (to_be_bytes w32) keys ++ counted agg_spelling aggs),
      length-append (flat_map (to_be_bytes w32) keys) (counted agg_spelling aggs),
      plan_few child,
      items_few (to_be_bytes w32) (λ n. omega arith) keys,
      items_few agg_spelling agg_some aggs,
    )
plan_few (Join left right on) =
    omega (
      arith,
      length-append (plan_spelling left) (plan_spelling right ++ counted pair_spelling on),
      length-append (plan_spelling right) (counted pair_spelling on),
      plan_few left,
      plan_few right,
      items_few pair_spelling (λ p. omega arith) on,
    )
plan_few (Concat left right) = omega (arith, length-append (plan_spelling left) (plan_spelling right), plan_few left, plan_few right)
plan_few (Order child keys) =
    omega (arith, length-append (plan_spelling child) (counted key_spelling keys), plan_few child, items_few key_spelling (λ key. omega arith) keys)

pub few_of : (bytes : List ℕ) (p : PlainPlan) → bytes ≡ plan_spelling p → plan_parts p ≤ length bytes
few_of bytes p e = omega (arith, plan_few p, ap length e)
