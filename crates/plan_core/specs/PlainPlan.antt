-- A plan as plain data, with no word on memory: what all definitions and laws speak of.
use Rattle.std.specs.Prelude.{ℕ, List, [], ◌∷◌, ◌++◌, length, map}
use Rattle.rows_core.specs.declared.order.Key.{Key}
use Rattle.plan_core.specs.declared.agg.Agg.{Agg}
use Rattle.plan_core.specs.declared.plan.Plan as code
use Rattle.plan_core.specs.PlainExpr.{PlainExpr, expr_of}

-- Streams and columns are counted from 0.
pub data PlainPlan : Type 0 where
  Scan : ℕ → PlainPlan
  Filter : PlainPlan → PlainExpr → PlainPlan
  Project : PlainPlan → List PlainExpr → PlainPlan
  Distinct : PlainPlan → PlainPlan
  Group : PlainPlan → List ℕ → List Agg → PlainPlan
  Join : PlainPlan → PlainPlan → List (ℕ × ℕ) → PlainPlan
  Concat : PlainPlan → PlainPlan → PlainPlan
  Order : PlainPlan → List Key → PlainPlan

-- what a plan of the code says
abbrev pub plan_of : code.Plan → PlainPlan
plan_of (code.Scan stream) = Scan stream
plan_of (code.Filter' p child test) = Filter (plan_of child) (expr_of test)
plan_of (code.Project' p child columns) = Project (plan_of child) (map expr_of columns)
plan_of (code.Distinct' p child) = Distinct (plan_of child)
plan_of (code.Group' p child keys aggs) = Group (plan_of child) keys aggs
plan_of (code.Join' p left q right on) = Join (plan_of left) (plan_of right) on
plan_of (code.Concat' p left q right) = Concat (plan_of left) (plan_of right)
plan_of (code.Order' p child keys) = Order (plan_of child) keys

-- the streams of a plan's scans, from the left
abbrev pub leaves : PlainPlan → List ℕ
leaves (Scan stream) = stream ∷ []
leaves (Filter child test) = leaves child
leaves (Project child columns) = leaves child
leaves (Distinct child) = leaves child
leaves (Group child keys aggs) = leaves child
leaves (Join left right on) = leaves left ++ leaves right
leaves (Concat left right) = leaves left ++ leaves right
leaves (Order child keys) = leaves child

abbrev pub leaf_count : PlainPlan → ℕ
leaf_count plan = length (leaves plan)
