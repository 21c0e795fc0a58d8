-- Calls of a plan's text that no row of the table of operations is for.
use Rattle.std.specs.Prelude.{Bool, false, ◌||◌, List, [], ◌∷◌, Option, None, Some}
use Rattle.std.specs.Option.{option_and_then, is_none}
use Rattle.std.specs.List.{list_any}
use Rattle.rows_core.specs.declared.schema.Column as schema
use Rattle.scalar_ops.specs.declared.cell.CellKind.{CellKind}
use Rattle.scalar_ops.specs.declared.table.Op.{Op}
use Rattle.plan_core.specs.ExpressionKind.{expression_kind}
use Rattle.plan_core.specs.PlanTyping.{Kinds, all_there}
use Rattle.plan_text.specs.declared.operator.Operator.{Operator}
use Rattle.plan_text.specs.declared.operator.Operator.TheVariants as operator
use Rattle.plan_text.specs.PlainNamed.{PlainExpr, Column, Literal, Call1, Binary, If, PlainColumn, PlainTree, From, Where, Select, Distinct, Group, Join, Concat, Order}
use Rattle.plan_binder.specs.OpRows.{row_with}
use Rattle.plan_binder.specs.Binding.{Names, Bound, bound_expr, bound_tree}

-- the table has no row for this operation at arguments of these kinds
abbrev pub has_no_row : Op → List (Option CellKind) → Bool
has_no_row op kinds = is_none (option_and_then (row_with op) (all_there kinds))

-- the operator calls an operation that has no row for operands of these kinds
abbrev pub operator_lacks_row : Operator → Option CellKind → Option CellKind → Bool
operator_lacks_row (operator.Call op) a b = has_no_row op (a ∷ b ∷ [])
operator_lacks_row _ a b = false

-- ---- expressions, over columns with these names and kinds

-- the kind of the bound expression
abbrev pub bound_kind : Names → Kinds → PlainExpr → Option CellKind
bound_kind names kinds e = option_and_then (expression_kind kinds) (bound_expr names kinds e)

-- some call in the expression has no row
abbrev pub lacks_row : Names → Kinds → PlainExpr → Bool
lacks_row names kinds (Column name) = false
lacks_row names kinds (Literal cell) = false
lacks_row names kinds (Call1 op a) = has_no_row op (bound_kind names kinds a ∷ []) || lacks_row names kinds a
lacks_row names kinds (Binary o a b) =
    operator_lacks_row o (bound_kind names kinds a) (bound_kind names kinds b) || lacks_row names kinds a || lacks_row names kinds b
lacks_row names kinds (If c a b) = lacks_row names kinds c || lacks_row names kinds a || lacks_row names kinds b

abbrev pub test_lacks_row : PlainExpr → Option Bound → Bool
test_lacks_row test None = false
test_lacks_row test (Some input) = lacks_row input.names input.kinds test

abbrev pub columns_lack_row : List PlainColumn → Option Bound → Bool
columns_lack_row columns None = false
columns_lack_row columns (Some input) = list_any (λ column. lacks_row input.names input.kinds column.expr) columns

-- ---- plans, over streams with these names and columns

-- some call in the plan has no row
abbrev pub plan_lacks_row : Names → List (List schema.Column) → PlainTree → Bool
plan_lacks_row streams schemas (From stream) = false
plan_lacks_row streams schemas (Where child test) = test_lacks_row test (bound_tree streams schemas child) || plan_lacks_row streams schemas child
plan_lacks_row streams schemas (Select child columns) =
    columns_lack_row columns (bound_tree streams schemas child) || plan_lacks_row streams schemas child
plan_lacks_row streams schemas (Distinct child) = plan_lacks_row streams schemas child
plan_lacks_row streams schemas (Group child keys results) = plan_lacks_row streams schemas child
plan_lacks_row streams schemas (Join left right on) = plan_lacks_row streams schemas left || plan_lacks_row streams schemas right
plan_lacks_row streams schemas (Concat left right) = plan_lacks_row streams schemas left || plan_lacks_row streams schemas right
plan_lacks_row streams schemas (Order child keys) = plan_lacks_row streams schemas child
