-- How much a plan holds: its nodes and those of its expressions, the bytes of its texts, and the items of its lists.
use Rattle.std.specs.Prelude.{ℕ, ◌+◌, length}
use Rattle.std.specs.List.{sum_by}
use Rattle.scalar_ops.specs.declared.cell.Cell.{Cell}
use Rattle.scalar_ops.specs.declared.cell.Cell.TheVariants as cell
use Rattle.plan_core.specs.PlainExpr.{PlainExpr, Column, Literal, Call1, Call2, And, Or, If}
use Rattle.plan_core.specs.PlainPlan.{PlainPlan, Scan, Filter, Project, Distinct, Group, Join, Concat, Order}

-- a literal, and the bytes of its text
abbrev pub cell_parts : Cell → ℕ
cell_parts (cell.Int n) = 1
cell_parts (cell.Text t) = 1 + length t
cell_parts (cell.Bool b) = 1

abbrev pub expr_parts : PlainExpr → ℕ
expr_parts (Column column) = 1
expr_parts (Literal c) = cell_parts c
expr_parts (Call1 row a) = 1 + expr_parts a
expr_parts (Call2 row a b) = 1 + expr_parts a + expr_parts b
expr_parts (And a b) = 1 + expr_parts a + expr_parts b
expr_parts (Or a b) = 1 + expr_parts a + expr_parts b
expr_parts (If test a b) = 1 + expr_parts test + expr_parts a + expr_parts b

abbrev pub plan_parts : PlainPlan → ℕ
plan_parts (Scan stream) = 1
plan_parts (Filter child test) = 1 + plan_parts child + expr_parts test
plan_parts (Project child columns) = 1 + plan_parts child + sum_by expr_parts columns
plan_parts (Distinct child) = 1 + plan_parts child
plan_parts (Group child keys aggs) = 1 + plan_parts child + length keys + length aggs
plan_parts (Join left right on) = 1 + plan_parts left + plan_parts right + length on
plan_parts (Concat left right) = 1 + plan_parts left + plan_parts right
plan_parts (Order child keys) = 1 + plan_parts child + length keys
