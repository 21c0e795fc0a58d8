-- How many operators a plan has; its scans are none.
use Rattle.std.specs.Prelude.{ℕ, suc, ◌+◌}
use Rattle.plan_core.specs.PlainPlan.{PlainPlan, Scan, Filter, Project, Distinct, Group, Join, Concat, Order}

abbrev pub operator_count : PlainPlan → ℕ
operator_count (Scan stream) = 0
operator_count (Filter child test) = suc (operator_count child)
operator_count (Project child columns) = suc (operator_count child)
operator_count (Distinct child) = suc (operator_count child)
operator_count (Group child keys aggs) = suc (operator_count child)
operator_count (Join left right on) = suc (operator_count left + operator_count right)
operator_count (Concat left right) = suc (operator_count left + operator_count right)
operator_count (Order child keys) = suc (operator_count child)
