-- The shape of what is kept of a plan's result, over streams of these kinds: what a reader of its file expects.
use Rattle.std.specs.Prelude.{ℕ, List, [], ◌++◌, map, slice_get, unwrap_or}
use Rattle.rows_core.specs.declared.kind.Kind as kind
use Rattle.rows_core.specs.declared.kind.Kind.TheVariants.{Int}
use Rattle.row_blob.specs.declared.shape.AccKind.{AccKind}
use Rattle.row_blob.specs.declared.shape.AccKind.TheVariants as acc
use Rattle.row_blob.specs.declared.shape.Shape.{Shape}
use Rattle.row_blob.specs.declared.shape.Shape.TheVariants.{Rows, Groups, Tagged}
use Rattle.plan_core.specs.declared.agg.Agg.{Agg}
use Rattle.plan_core.specs.declared.agg.Agg.TheVariants.{Count, Sum, Min, Max, First, Last, Avg}
use Rattle.plan_core.specs.PlainPlan.{PlainPlan, Scan, Filter, Project, Distinct, Group, Join, Concat, Order}
use Rattle.plan_core.specs.PlanTyping.{Kinds, plan_kinds}

-- the kinds of a typed plan's columns
abbrev pub kinds_given : List Kinds → PlainPlan → Kinds
kinds_given schemas plan = unwrap_or (plan_kinds schemas plan) []

-- the kind of a column of a typed plan
abbrev pub kind_at : Kinds → ℕ → kind.Kind
kind_at kinds column = unwrap_or (slice_get kinds column) Int

-- what a group keeps for an aggregate
abbrev pub acc_kind_of : Kinds → Agg → AccKind
acc_kind_of kinds Count = acc.Count
acc_kind_of kinds (Sum column) = acc.Sum
acc_kind_of kinds (Min column) = acc.Pick (kind_at kinds column)
acc_kind_of kinds (Max column) = acc.Pick (kind_at kinds column)
acc_kind_of kinds (First column) = acc.Pick (kind_at kinds column)
acc_kind_of kinds (Last column) = acc.Pick (kind_at kinds column)
acc_kind_of kinds (Avg column) = acc.Avg

-- keys and accumulators of a grouping, rows with the positions of their left rows of a join, and rows of every other node
abbrev pub plan_shape : List Kinds → PlainPlan → Shape
plan_shape schemas (Group child keys aggs) =
    Groups (map (kind_at (kinds_given schemas child)) keys) (map (acc_kind_of (kinds_given schemas child)) aggs)
plan_shape schemas (Join left right on) = Tagged (kinds_given schemas left ++ kinds_given schemas right)
plan_shape schemas (Scan stream) = Rows (kinds_given schemas (Scan stream))
plan_shape schemas (Filter child test) = Rows (kinds_given schemas (Filter child test))
plan_shape schemas (Project child columns) = Rows (kinds_given schemas (Project child columns))
plan_shape schemas (Distinct child) = Rows (kinds_given schemas (Distinct child))
plan_shape schemas (Concat left right) = Rows (kinds_given schemas (Concat left right))
plan_shape schemas (Order child keys) = Rows (kinds_given schemas (Order child keys))
