-- The binding of names: the plan with numbers in place of names, or why there is none. A stream's number is its place in
-- the list of streams, and a column's its place among the columns of the operator's input. The rules are this project's
-- own.
use Rattle.std.specs.Prelude.{◌≡◌, ℕ, Bool, false, ◌||◌, not, List, [], ◌∷◌, ◌++◌, map, slice_get, bytes_eq, Option, None, Some, unwrap_or, Result, Ok, Err, if◌then◌else◌}
use Rattle.std.specs.Option.{option_map, option_and_then}
use Rattle.std.specs.List.{list_any, find, position}
use Rattle.rows_core.specs.declared.kind.Kind as a_kind
use Rattle.rows_core.specs.declared.kind.Kind.TheVariants.{Int}
use Rattle.rows_core.specs.declared.order.Key.{Key}
use Rattle.rows_core.specs.declared.schema.Column as schema
use Rattle.rows_core.specs.Schema.{kinds_of}
use Rattle.scalar_ops.specs.declared.table.Op.{Op}
use Rattle.plan_core.specs.declared.agg.Agg.{Agg}
use Rattle.plan_core.specs.declared.agg.Agg.TheVariants as agg
use Rattle.plan_core.specs.declared.plan.Plan as code
use Rattle.plan_core.specs.PlainExpr as bound
use Rattle.plan_core.specs.PlainExpr.{Column, Literal, And, Or, If}
use Rattle.plan_core.specs.PlainPlan.{PlainPlan, Scan, Filter, Project, Distinct, Group, Join, Concat, Order, plan_of}
use Rattle.plan_core.specs.ExpressionKind.{of_both, expression_kind}
use Rattle.plan_core.specs.PlanTyping.{Kinds, all_there, column_kind_of, agg_kind}
use Rattle.plan_text.specs.declared.operator.Operator.{Operator}
use Rattle.plan_text.specs.declared.operator.Operator.TheVariants as operator
use Rattle.plan_text.specs.declared.plan.AggFunction as named_function
use Rattle.plan_text.specs.declared.plan.AggFunction.TheVariants as function
use Rattle.plan_text.specs.declared.plan.NamedAgg.{NamedAgg}
use Rattle.plan_text.specs.declared.plan.NamedAgg.TheVariants as named_agg
use Rattle.plan_text.specs.declared.plan.NamedResult.{NamedResult}
use Rattle.plan_text.specs.declared.plan.NamedPair.{NamedPair}
use Rattle.plan_text.specs.declared.plan.NamedKey.{NamedKey}
use Rattle.plan_binder.specs.declared.refusal.BindRefusal.{BindRefusal}
use Rattle.plan_binder.specs.declared.refusal.BindRefusal.TheVariants as refusal
use Rattle.plan_text.specs.PlainNamed as named
use Rattle.plan_text.specs.PlainNamed.{PlainColumn, PlainTree, From, Where, Select, streams_of}
use Rattle.plan_binder.specs.OpRows.{row_for}

abbrev pub Names : Type 0
Names = List (List ℕ)

-- the place of a name, counted from 0
abbrev pub place_of : Names → List ℕ → Option ℕ
place_of names name = position (λ other. bytes_eq other name) names

abbrev pub is_there : Names → List ℕ → Bool
is_there names name = list_any (λ other. bytes_eq other name) names

-- two of them are one name
abbrev pub has_repeat : Names → Bool
has_repeat [] = false
has_repeat (first ∷ others) = is_there others first || has_repeat others

-- ---- expressions, over columns with these names and kinds

-- calls of the rows that are for their arguments' kinds
abbrev pub call1 : Kinds → Op → bound.PlainExpr → bound.PlainExpr
call1 kinds op a = bound.Call1 (row_for op (expression_kind kinds a ∷ [])) a

abbrev pub call2 : Kinds → Op → bound.PlainExpr → bound.PlainExpr → bound.PlainExpr
call2 kinds op a b = bound.Call2 (row_for op (expression_kind kinds a ∷ expression_kind kinds b ∷ [])) a b

-- what an operator makes of its operands
abbrev pub operated : Kinds → Operator → bound.PlainExpr → bound.PlainExpr → bound.PlainExpr
operated kinds (operator.Call op) = call2 kinds op
operated kinds operator.And = And
operated kinds operator.Or = Or

-- what is made of two, or of three, that are all there
abbrev pub of_two : (bound.PlainExpr → bound.PlainExpr → bound.PlainExpr) → Option bound.PlainExpr → Option bound.PlainExpr → Option bound.PlainExpr
of_two make (Some x) (Some y) = Some (make x y)
of_two make _ _ = None

abbrev pub of_three : (bound.PlainExpr → bound.PlainExpr → bound.PlainExpr → bound.PlainExpr) → Option bound.PlainExpr → Option bound.PlainExpr → Option bound.PlainExpr → Option bound.PlainExpr
of_three make (Some x) (Some y) (Some z) = Some (make x y z)
of_three make _ _ _ = None

abbrev pub bound_expr : Names → Kinds → named.PlainExpr → Option bound.PlainExpr
bound_expr names kinds (named.Column name) = option_map Column (place_of names name)
bound_expr names kinds (named.Literal cell) = Some (Literal cell)
bound_expr names kinds (named.Call1 op a) = option_map (call1 kinds op) (bound_expr names kinds a)
bound_expr names kinds (named.Binary o a b) = of_two (operated kinds o) (bound_expr names kinds a) (bound_expr names kinds b)
bound_expr names kinds (named.If c a b) = of_three If (bound_expr names kinds c) (bound_expr names kinds a) (bound_expr names kinds b)

-- ---- operators

-- A plan, and the names and kinds of its columns.
pub record Bound : Type 0 where
  pub plan : PlainPlan
  pub names : Names
  pub kinds : Kinds

-- what has no kind as a column counts as a number: typing refuses its plan, whatever rows the calls above name
abbrev pub kind_or_int : Option a_kind.Kind → a_kind.Kind
kind_or_int kind = unwrap_or kind Int

-- the names of a result's columns differ
abbrev pub with_columns : PlainPlan → Names → Kinds → Option Bound
with_columns plan names kinds = if has_repeat names then None else Some (record { plan = plan; names = names; kinds = kinds })

-- the rows of the stream with this number
abbrev pub bound_scan : List (List schema.Column) → ℕ → Option Bound
bound_scan schemas number =
    option_map (λ columns. record { plan = Scan number; names = map (λ column. column.name) columns; kinds = kinds_of columns }) (slice_get schemas number)

abbrev pub bound_from : Names → List (List schema.Column) → List ℕ → Option Bound
bound_from streams schemas stream = option_and_then (bound_scan schemas) (place_of streams stream)

abbrev pub bound_where : named.PlainExpr → Bound → Option Bound
bound_where test input =
    option_map (λ e. record { plan = Filter input.plan e; names = input.names; kinds = input.kinds }) (bound_expr input.names input.kinds test)

-- the rows of these expressions
abbrev pub projected : Bound → Names → List bound.PlainExpr → Option Bound
projected input names exprs =
    with_columns (Project input.plan exprs) names (map (λ e. kind_or_int (column_kind_of input.kinds e)) exprs)

abbrev pub bound_select : List PlainColumn → Bound → Option Bound
bound_select columns input =
    option_and_then (projected input (map (λ column. column.name) columns))
    (all_there (map (λ column. bound_expr input.names input.kinds column.expr) columns))

abbrev pub bound_distinct : Bound → Bound
bound_distinct input = record { plan = Distinct input.plan; names = input.names; kinds = input.kinds }

-- the aggregate of the column at a place
abbrev pub column_agg : named_function.AggFunction → ℕ → Agg
column_agg function.Sum = agg.Sum
column_agg function.Min = agg.Min
column_agg function.Max = agg.Max
column_agg function.First = agg.First
column_agg function.Last = agg.Last
column_agg function.Avg = agg.Avg

abbrev pub bound_agg : Names → NamedAgg → Option Agg
bound_agg names named_agg.Count = Some agg.Count
bound_agg names (named_agg.Of f column) = option_map (column_agg f) (place_of names column)

-- the groups by the columns at these places
abbrev pub grouped : Bound → Names → List ℕ → List Agg → Option Bound
grouped input names places aggs =
    with_columns (Group input.plan places aggs) names
    (map (λ place. kind_or_int (slice_get input.kinds place)) places ++ map (λ a. kind_or_int (agg_kind input.kinds a)) aggs)

-- the keys and then the aggregates
abbrev pub bound_group : Names → List NamedResult → Bound → Option Bound
bound_group keys results input =
    of_both (grouped input (keys ++ map (λ result. result.name) results))
    (all_there (map (place_of input.names) keys)) (all_there (map (λ result. bound_agg input.names result.agg) results))

abbrev pub bound_pair : Names → Names → NamedPair → Option (ℕ × ℕ)
bound_pair lefts rights pair = of_both (λ left right. Some (left, right)) (place_of lefts pair.left) (place_of rights pair.right)

-- the left columns and then the right ones
abbrev pub joined : Bound → Bound → List (ℕ × ℕ) → Option Bound
joined left right pairs = with_columns (Join left.plan right.plan pairs) (left.names ++ right.names) (left.kinds ++ right.kinds)

abbrev pub bound_join : List NamedPair → Bound → Bound → Option Bound
bound_join on left right = option_and_then (joined left right) (all_there (map (bound_pair left.names right.names) on))

-- the left columns
abbrev pub bound_concat : Bound → Bound → Option Bound
bound_concat left right = Some (record { plan = Concat left.plan right.plan; names = left.names; kinds = left.kinds })

abbrev pub bound_key : Names → NamedKey → Option Key
bound_key names key = option_map (λ place. record { column = place; down = key.down }) (place_of names key.column)

abbrev pub bound_order : List NamedKey → Bound → Option Bound
bound_order keys input =
    option_map (λ places. record { plan = Order input.plan places; names = input.names; kinds = input.kinds })
    (all_there (map (bound_key input.names) keys))

-- ---- plans, over streams with these names and columns

abbrev pub bound_tree : Names → List (List schema.Column) → PlainTree → Option Bound
bound_tree streams schemas (From stream) = bound_from streams schemas stream
bound_tree streams schemas (Where child test) = option_and_then (bound_where test) (bound_tree streams schemas child)
bound_tree streams schemas (Select child columns) = option_and_then (bound_select columns) (bound_tree streams schemas child)
bound_tree streams schemas (named.Distinct child) = option_map bound_distinct (bound_tree streams schemas child)
bound_tree streams schemas (named.Group child keys results) = option_and_then (bound_group keys results) (bound_tree streams schemas child)
bound_tree streams schemas (named.Join left right on) = of_both (bound_join on) (bound_tree streams schemas left) (bound_tree streams schemas right)
bound_tree streams schemas (named.Concat left right) = of_both bound_concat (bound_tree streams schemas left) (bound_tree streams schemas right)
bound_tree streams schemas (named.Order child keys) = option_and_then (bound_order keys) (bound_tree streams schemas child)

-- the first stream from the left that isn't there
abbrev pub absent_stream : Names → PlainTree → Option (List ℕ)
absent_stream streams tree = find (λ stream. not (is_there streams stream)) (streams_of tree)

-- the refusal of a stream that isn't there, or else the next answer
abbrev pub present_or : Option (List ℕ) → Result PlainPlan BindRefusal → Result PlainPlan BindRefusal
present_or (Some stream) next = Err (refusal.Unknown stream)
present_or None next = next

abbrev pub plan_or_ill_typed : Option Bound → Result PlainPlan BindRefusal
plan_or_ill_typed (Some result) = Ok result.plan
plan_or_ill_typed None = Err refusal.IllTyped

-- The plan with numbers, or the first of these: a stream isn't there; a column isn't there, or two columns of a result
-- have one name.
abbrev pub binding : Names → List (List schema.Column) → PlainTree → Result PlainPlan BindRefusal
binding streams schemas tree = present_or (absent_stream streams tree) (plan_or_ill_typed (bound_tree streams schemas tree))

-- the answer is the binding; want of memory may be answered in place of any answer
abbrev pub Binds : Result code.Plan BindRefusal → Result PlainPlan BindRefusal → Type 0
Binds (Ok plan) binding = binding ≡ Ok (plan_of plan)
Binds (Err refusal.Memory) binding = Unit {0}
Binds (Err (refusal.Unknown stream)) binding = binding ≡ Err (refusal.Unknown stream)
Binds (Err refusal.IllTyped) binding = binding ≡ Err refusal.IllTyped
