-- What a bound plan of the code says.
use Rattle.std.specs.Prelude.{ℕ, List, Vec, Box}
use Rattle.std.specs.declared.alloc.Global.{Global}
use Rattle.plan_core.specs.declared.agg.Agg.{Agg}
use Rattle.plan_core.specs.declared.expr.Expr as code_expr
use Rattle.plan_core.specs.PlainExpr.{PlainExpr, expr_of}
use Rattle.plan_core.specs.PlainPlan.{plan_of}
use Rattle.plan_binder.specs.declared.bind_names.GroupParts.{GroupParts}
use Rattle.plan_binder.specs.declared.bound.Bound as code
use Rattle.plan_binder.specs.Binding.{Bound}

abbrev pub bound_of : code.Bound → Bound
bound_of b = record { plan = plan_of b.plan.value; names = b.columns.names; kinds = b.columns.kinds }

-- what a boxed expression of the code says
abbrev pub boxed_expr_of : Box code_expr.Expr Global → PlainExpr
boxed_expr_of e = expr_of e.value

-- the places of a group's keys, and its aggregates
abbrev pub parts_of : GroupParts → List ℕ × List Agg
parts_of parts = (parts.places.items, parts.aggs.items)

-- what a list of the code says
abbrev pub items_of : {A : Type 0} → Vec A Global → List A
items_of v = v.items
