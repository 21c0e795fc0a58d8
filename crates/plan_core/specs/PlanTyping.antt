-- The kinds of the columns of a plan's rows, if the plan has a typing, and why it has none. The rules and the limit are
-- this project's own.
use Rattle.std.specs.Prelude.{ℕ, ◌+◌, Bool, true, false, ◌||◌, ◌==◌, nat_lt, nat_le, List, [], ◌∷◌, ◌++◌, length, map, slice_get, Option, None, Some, unwrap_or, Result, Ok, Err, if◌then◌else◌}
use Rattle.std.specs.Option.{option_map, option_and_then}
use Rattle.std.specs.List.{list_all, find}
use Rattle.std.specs.Cmp.Lexicographic.{pointwise}
use Rattle.rows_core.specs.declared.kind.Kind as column
use Rattle.rows_core.specs.declared.kind.Kind.TheVariants.{Int, Text, Bool as Truth}
use Rattle.rows_core.specs.declared.order.Key.{Key}
use Rattle.scalar_ops.specs.declared.cell.CellKind.{CellKind}
use Rattle.scalar_ops.specs.declared.cell.CellKind.TheVariants as cell_kind
use Rattle.plan_core.specs.declared.agg.Agg.{Agg}
use Rattle.plan_core.specs.declared.agg.Agg.TheVariants as agg
use Rattle.plan_core.specs.declared.refusal.PlanRefusal.{PlanRefusal}
use Rattle.plan_core.specs.declared.refusal.PlanRefusal.TheVariants.{Unknown, IllTyped, TooMany}
use Rattle.plan_core.specs.PlainExpr.{PlainExpr}
use Rattle.plan_core.specs.PlainPlan.{PlainPlan, Scan, Filter, Project, Distinct, Group, Join, Concat, Order, leaves}
use Rattle.plan_core.specs.ExpressionKind.{of_both, expression_kind}

abbrev pub Kinds : Type 0
Kinds = List column.Kind

abbrev pub same_kind : column.Kind → column.Kind → Bool
same_kind Int Int = true
same_kind Text Text = true
same_kind Truth Truth = true
same_kind _ _ = false

abbrev pub is_empty : {A : Type 0} → List A → Bool
is_empty xs = length xs == 0

-- all of them, where none is missing
abbrev pub all_there : {A : Type 0} → List (Option A) → Option (List A)
all_there [] = Some []
all_there (None ∷ xs) = None
all_there (Some x ∷ xs) = option_and_then (λ others. Some (x ∷ others)) (all_there xs)

-- the kind of a column with values of this kind
abbrev pub column_kind : CellKind → column.Kind
column_kind cell_kind.Int = Int
column_kind cell_kind.Text = Text
column_kind cell_kind.Bool = Truth

-- the kind of a column of a projection
abbrev pub column_kind_of : Kinds → PlainExpr → Option column.Kind
column_kind_of kinds e = option_map column_kind (expression_kind kinds e)

abbrev pub is_truth : Option CellKind → Bool
is_truth (Some cell_kind.Bool) = true
is_truth _ = false

-- a test keeps the columns
abbrev pub filter_kinds : PlainExpr → Kinds → Option Kinds
filter_kinds test kinds = if is_truth (expression_kind kinds test) then Some kinds else None

-- one column or more, each of a kind
abbrev pub project_kinds : List PlainExpr → Kinds → Option Kinds
project_kinds columns kinds =
    if is_empty columns then None else all_there (map (column_kind_of kinds) columns)

-- a column of numbers
abbrev pub number_kind : Option column.Kind → Option column.Kind
number_kind (Some Int) = Some Int
number_kind _ = None

abbrev pub agg_kind : Kinds → Agg → Option column.Kind
agg_kind kinds agg.Count = Some Int
agg_kind kinds (agg.Sum column) = number_kind (slice_get kinds column)
agg_kind kinds (agg.Min column) = slice_get kinds column
agg_kind kinds (agg.Max column) = slice_get kinds column
agg_kind kinds (agg.First column) = slice_get kinds column
agg_kind kinds (agg.Last column) = slice_get kinds column
agg_kind kinds (agg.Avg column) = number_kind (slice_get kinds column)

-- one key or more and one aggregate or more; the keys and then the aggregates
abbrev pub group_kinds : List ℕ → List Agg → Kinds → Option Kinds
group_kinds keys aggs kinds =
    if is_empty keys || is_empty aggs then None
    else of_both (λ key_kinds agg_kinds. Some (key_kinds ++ agg_kinds)) (all_there (map (slice_get kinds) keys)) (all_there (map (agg_kind kinds) aggs))

-- both are there, and are one kind
abbrev pub are_one_kind : Option column.Kind → Option column.Kind → Bool
are_one_kind (Some k) (Some j) = same_kind k j
are_one_kind _ _ = false

-- the two columns are there and have one kind
abbrev pub pair_agrees : Kinds → Kinds → ℕ × ℕ → Bool
pair_agrees left right pair = are_one_kind (slice_get left pair.0) (slice_get right pair.1)

-- one pair or more; the left columns and then the right ones
abbrev pub join_kinds : List (ℕ × ℕ) → Kinds → Kinds → Option Kinds
join_kinds on left right = if is_empty on then None else (if list_all (pair_agrees left right) on then Some (left ++ right) else None)

-- the same kinds in order
abbrev pub concat_kinds : Kinds → Kinds → Option Kinds
concat_kinds left right = if pointwise same_kind left right then Some left else None

-- one key or more, each of a column that is there
abbrev pub order_kinds : List Key → Kinds → Option Kinds
order_kinds keys kinds =
    if is_empty keys then None else (if list_all (λ key. nat_lt key.column (length kinds)) keys then Some kinds else None)

-- the kinds of a plan's columns over streams of these kinds, if it has a typing
abbrev pub plan_kinds : List Kinds → PlainPlan → Option Kinds
plan_kinds schemas (Scan stream) = slice_get schemas stream
plan_kinds schemas (Filter child test) = option_and_then (filter_kinds test) (plan_kinds schemas child)
plan_kinds schemas (Project child columns) = option_and_then (project_kinds columns) (plan_kinds schemas child)
plan_kinds schemas (Distinct child) = plan_kinds schemas child
plan_kinds schemas (Group child keys aggs) = option_and_then (group_kinds keys aggs) (plan_kinds schemas child)
plan_kinds schemas (Join left right on) = of_both (join_kinds on) (plan_kinds schemas left) (plan_kinds schemas right)
plan_kinds schemas (Concat left right) = of_both concat_kinds (plan_kinds schemas left) (plan_kinds schemas right)
plan_kinds schemas (Order child keys) = option_and_then (order_kinds keys) (plan_kinds schemas child)

-- how many columns the plan's rows have
abbrev pub column_count : List Kinds → PlainPlan → ℕ
column_count schemas plan = length (unwrap_or (plan_kinds schemas plan) [])

abbrev pub is_above_limit : ℕ → Bool
is_above_limit count = nat_lt 32 count

-- there are more than 32 columns of some operator's rows, keys of an order, or pairs of a join
abbrev pub has_too_many : List Kinds → PlainPlan → Bool
has_too_many schemas (Scan stream) = is_above_limit (column_count schemas (Scan stream))
has_too_many schemas (Filter child test) = has_too_many schemas child
has_too_many schemas (Project child columns) = is_above_limit (length columns) || has_too_many schemas child
has_too_many schemas (Distinct child) = has_too_many schemas child
has_too_many schemas (Group child keys aggs) = is_above_limit (length keys + length aggs) || has_too_many schemas child
has_too_many schemas (Join left right on) =
    is_above_limit (column_count schemas left + column_count schemas right) || is_above_limit (length on)
    || has_too_many schemas left || has_too_many schemas right
has_too_many schemas (Concat left right) = has_too_many schemas left || has_too_many schemas right
has_too_many schemas (Order child keys) = is_above_limit (length keys) || has_too_many schemas child

-- the first stream from the left that isn't there
abbrev pub absent_stream : List Kinds → PlainPlan → Option ℕ
absent_stream schemas plan = find (λ stream. nat_le (length schemas) stream) (leaves plan)

-- the kinds, where there is a typing
abbrev pub typed_or : Option Kinds → (Kinds → Result Kinds PlanRefusal) → Result Kinds PlanRefusal
typed_or None next = Err IllTyped
typed_or (Some kinds) next = next kinds

-- the refusal of a stream that isn't there, or else the next answer
abbrev pub present_or : Option ℕ → Result Kinds PlanRefusal → Result Kinds PlanRefusal
present_or (Some stream) next = Err (Unknown stream)
present_or None next = next

-- The kinds of the plan's columns, or the first of these: a stream isn't there; the plan has no typing; it has too many
-- columns, keys or pairs.
abbrev pub plan_typing : List Kinds → PlainPlan → Result Kinds PlanRefusal
plan_typing schemas plan =
    present_or (absent_stream schemas plan)
    (typed_or (plan_kinds schemas plan) (λ kinds. if has_too_many schemas plan then Err TooMany else Ok kinds))
