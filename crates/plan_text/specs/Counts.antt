-- How many nodes a plan has as written, and the limits.
use Rattle.std.specs.Prelude.{ℕ, ◌+◌, ◌≤◌, ◌<◌}
use Rattle.std.specs.List.{sum_by}
use Rattle.plan_text.specs.declared.limit.PlanLimit.{PlanLimit}
use Rattle.plan_text.specs.declared.limit.PlanLimit.TheVariants.{Nodes, Wide, Exprs}
use Rattle.plan_text.specs.PlainNamed as plain
use Rattle.plan_text.specs.PlainNamed.{PlainExpr, PlainColumn, PlainTree, From, Where, Select, Distinct, Group, Join, Concat, Order}

-- each operation, operator, column, literal and `if` is one node
abbrev pub expr_nodes : PlainExpr → ℕ
expr_nodes (plain.Column name) = 1
expr_nodes (plain.Literal c) = 1
expr_nodes (plain.Call1 op a) = 1 + expr_nodes a
expr_nodes (plain.Binary operator a b) = 1 + (expr_nodes a + expr_nodes b)
expr_nodes (plain.If c a b) = 1 + (expr_nodes c + (expr_nodes a + expr_nodes b))

-- operators and leaves
abbrev pub nodes : PlainTree → ℕ
nodes (From stream) = 1
nodes (Where child test) = 1 + nodes child
nodes (Select child columns) = 1 + nodes child
nodes (Distinct child) = 1 + nodes child
nodes (Group child keys results) = 1 + nodes child
nodes (Join left right on) = 1 + (nodes left + nodes right)
nodes (Concat left right) = 1 + (nodes left + nodes right)
nodes (Order child keys) = 1 + nodes child

-- joins, concatenations and distincts
abbrev pub wide_nodes : PlainTree → ℕ
wide_nodes (From stream) = 0
wide_nodes (Where child test) = wide_nodes child
wide_nodes (Select child columns) = wide_nodes child
wide_nodes (Distinct child) = 1 + wide_nodes child
wide_nodes (Group child keys results) = wide_nodes child
wide_nodes (Join left right on) = 1 + (wide_nodes left + wide_nodes right)
wide_nodes (Concat left right) = 1 + (wide_nodes left + wide_nodes right)
wide_nodes (Order child keys) = wide_nodes child

-- the nodes of all expressions
abbrev pub all_expr_nodes : PlainTree → ℕ
all_expr_nodes (From stream) = 0
all_expr_nodes (Where child test) = all_expr_nodes child + expr_nodes test
all_expr_nodes (Select child columns) = all_expr_nodes child + sum_by (λ column. expr_nodes column.expr) columns
all_expr_nodes (Distinct child) = all_expr_nodes child
all_expr_nodes (Group child keys results) = all_expr_nodes child
all_expr_nodes (Join left right on) = all_expr_nodes left + all_expr_nodes right
all_expr_nodes (Concat left right) = all_expr_nodes left + all_expr_nodes right
all_expr_nodes (Order child keys) = all_expr_nodes child

-- the plan passes this limit, and none before it
abbrev pub IsFirstPassed : PlanLimit → PlainTree → Type 0
IsFirstPassed Nodes plan = 40 < nodes plan
IsFirstPassed Wide plan = (nodes plan ≤ 40) × (8 < wide_nodes plan)
IsFirstPassed Exprs plan = (nodes plan ≤ 40) × (wide_nodes plan ≤ 8) × (512 < all_expr_nodes plan)

-- the plan passes no limit
abbrev pub IsWithinLimits : PlainTree → Type 0
IsWithinLimits plan = (nodes plan ≤ 40) × (wide_nodes plan ≤ 8) × (all_expr_nodes plan ≤ 512)
