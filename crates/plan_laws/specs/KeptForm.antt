-- What is kept of a node's result: the keys and accumulators of a grouping, the rows of a join with the positions of
-- their left rows, and the rows of every other node. The form is this project's own.
use Rattle.std.specs.Prelude.{ℕ, ◌+◌, pos, List, [], ◌∷◌, ◌++◌, map, length, take, drop, Result, Ok}
use Rattle.std.specs.List.{filter}
use Rattle.rows_core.specs.declared.overflow.Overflow.{Overflow}
use Rattle.rows_core.specs.declared.value.Value.{Value}
use Rattle.rows_core.specs.declared.value.Value.TheVariants.{Int}
use Rattle.scalar_ops.specs.Division.{floor_div}
use Rattle.row_blob.specs.declared.kept.Acc.{Acc}
use Rattle.row_blob.specs.declared.kept.Acc.TheVariants as acc
use Rattle.row_blob.specs.declared.kept.GroupRow.{GroupRow}
use Rattle.row_blob.specs.declared.kept.Kept.{Kept}
use Rattle.row_blob.specs.declared.kept.Kept.TheVariants as kept
use Rattle.row_blob.specs.declared.kept.TaggedRow.{TaggedRow}
use Rattle.plan_core.specs.declared.agg.Agg.{Agg}
use Rattle.plan_core.specs.declared.agg.Agg.TheVariants.{Count, Sum, Min, Max, First, Last, Avg}
use Rattle.plan_core.specs.Aggregate.{exact_sum, values_of, whole_value, least_value, greatest_value, first_value, last_value}
use Rattle.plan_core.specs.Columns.{Row, Rows}
use Rattle.plan_core.specs.ExpressionValue.{◌>>=◌, all_of}
use Rattle.plan_core.specs.Group.{keys_of, members_of}
use Rattle.plan_core.specs.Join.{rows_agree}
use Rattle.plan_core.specs.PlainPlan.{PlainPlan, Scan, Filter, Project, Distinct, Group, Join, Concat, Order, leaf_count}
use Rattle.plan_core.specs.PlanMeaning.{plan_meaning}

-- what a group keeps for an aggregate of its rows; a sum is kept whole, also where it is outside of i64
abbrev pub acc_of : Rows → Agg → Acc
acc_of rows Count = acc.Count (length rows)
acc_of rows (Sum column) = acc.Sum (exact_sum (values_of column rows))
acc_of rows (Min column) = acc.Pick (least_value (values_of column rows))
acc_of rows (Max column) = acc.Pick (greatest_value (values_of column rows))
acc_of rows (First column) = acc.Pick (first_value (values_of column rows))
acc_of rows (Last column) = acc.Pick (last_value (values_of column rows))
acc_of rows (Avg column) = acc.Avg (exact_sum (values_of column rows)) (length rows)

-- the key of a group and what is kept of its rows
abbrev pub kept_group : List ℕ → List Agg → Rows → Row → GroupRow
kept_group keys aggs rows key = record { key = key; accs = map (acc_of (members_of keys rows key)) aggs }

-- the rows of a join, where the first left row has this position
abbrev pub tagged_from : ℕ → List (ℕ × ℕ) → Rows → Rows → List TaggedRow
tagged_from position on [] rights = []
tagged_from position on (left ∷ lefts) rights =
    map (λ right. record { left = position; row = left ++ right }) (filter (rows_agree on left) rights) ++ tagged_from (position + 1) on lefts rights

-- what is kept of a plan's result
abbrev pub kept_form : PlainPlan → List Rows → Result Kept Overflow
kept_form (Group child keys aggs) lists = do
  rows ← plan_meaning child lists
  Ok (kept.Groups (map (kept_group keys aggs rows) (keys_of keys rows)))
kept_form (Join left right on) lists = do
  lefts ← plan_meaning left (take (leaf_count left) lists)
  rights ← plan_meaning right (drop (leaf_count left) lists)
  Ok (kept.Tagged (length lefts) (tagged_from 0 on lefts rights))
kept_form (Scan stream) lists = do
  rows ← plan_meaning (Scan stream) lists
  Ok (kept.Rows rows)
kept_form (Filter child test) lists = do
  rows ← plan_meaning (Filter child test) lists
  Ok (kept.Rows rows)
kept_form (Project child columns) lists = do
  rows ← plan_meaning (Project child columns) lists
  Ok (kept.Rows rows)
kept_form (Distinct child) lists = do
  rows ← plan_meaning (Distinct child) lists
  Ok (kept.Rows rows)
kept_form (Concat left right) lists = do
  rows ← plan_meaning (Concat left right) lists
  Ok (kept.Rows rows)
kept_form (Order child keys) lists = do
  rows ← plan_meaning (Order child keys) lists
  Ok (kept.Rows rows)

-- ---- the rows of what is kept

abbrev pub value_of_acc : Acc → Result Value Overflow
value_of_acc (acc.Count count) = Ok (Int (pos count))
value_of_acc (acc.Sum sum) = whole_value sum
value_of_acc (acc.Avg sum count) = Ok (Int (floor_div sum (pos count)))
value_of_acc (acc.Pick value) = Ok value

abbrev pub row_of_group : GroupRow → Result Row Overflow
row_of_group group = do
  values ← all_of (map value_of_acc group.accs)
  Ok (group.key ++ values)

abbrev pub rows_of_kept : Kept → Result Rows Overflow
rows_of_kept (kept.Rows rows) = Ok rows
rows_of_kept (kept.Groups groups) = all_of (map row_of_group groups)
rows_of_kept (kept.Tagged left rows) = Ok (map (λ tagged. tagged.row) rows)

-- the rows that are read from what is kept of a plan's result
abbrev pub rows_read : PlainPlan → List Rows → Result Rows Overflow
rows_read plan lists = do
  form ← kept_form plan lists
  rows_of_kept form
