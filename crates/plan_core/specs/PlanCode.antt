-- Plain plans as values that a struct may be seen as: each is what a plan of the code says, one whose boxes lie nowhere.
use Rattle.std.specs.Prelude.{◌≡◌, refl, ℕ, List, [], ◌∷◌, map, Box}
use Rattle.std.specs.Coded.{Coded, code_by, coded×, coded_ℕ, coded_list}
use Rattle.std.specs.declared.alloc.Global.{Global}
use Rattle.std.proofs.Common.{ap}
use denote.RawPtr.{null_ptr}
use Rattle.rows_core.specs.contracts.kind.Kind as a_kind
use Rattle.plan_core.specs.contracts.plan.Plan as a_plan
use Rattle.plan_core.specs.declared.expr.Expr as expr
use Rattle.plan_core.specs.declared.plan.Plan as plan
use Rattle.plan_core.specs.PlainExpr.{PlainExpr, Column, Literal, Call1, Call2, And, Or, If, expr_of}
use Rattle.plan_core.specs.PlainPlan.{PlainPlan, Scan, Filter, Project, Distinct, Group, Join, Concat, Order, plan_of}
use Rattle.plan_core.specs.TypedPlan.{TypedPlan}

abbrev pub nowhere : Box (Unit {0}) Global
nowhere = record { ptr = null_ptr; alloc = record { memory = record { seal = tt } }; value = tt }

abbrev pub to_expr : PlainExpr → expr.Expr
to_expr (Column i) = expr.Column i
to_expr (Literal c) = expr.Literal c
to_expr (Call1 row a) = expr.Call1' row nowhere (to_expr a)
to_expr (Call2 row a b) = expr.Call2' row nowhere (to_expr a) nowhere (to_expr b)
to_expr (And a b) = expr.And' nowhere (to_expr a) nowhere (to_expr b)
to_expr (Or a b) = expr.Or' nowhere (to_expr a) nowhere (to_expr b)
to_expr (If c a b) = expr.If' nowhere (to_expr c) nowhere (to_expr a) nowhere (to_expr b)

pub expr_of-to_expr : (e : PlainExpr) → expr_of (to_expr e) ≡ e
expr_of-to_expr (Column i) = refl
expr_of-to_expr (Literal c) = refl
expr_of-to_expr (Call1 row a) = ap (Call1 row) (expr_of-to_expr a)
expr_of-to_expr (Call2 row a b) = λ i. Call2 row (expr_of-to_expr a i) (expr_of-to_expr b i)
expr_of-to_expr (And a b) = λ i. And (expr_of-to_expr a i) (expr_of-to_expr b i)
expr_of-to_expr (Or a b) = λ i. Or (expr_of-to_expr a i) (expr_of-to_expr b i)
expr_of-to_expr (If c a b) = λ i. If (expr_of-to_expr c i) (expr_of-to_expr a i) (expr_of-to_expr b i)

pub exprs_of-to_exprs : (es : List PlainExpr) → map expr_of (map to_expr es) ≡ es
exprs_of-to_exprs [] = refl
exprs_of-to_exprs (e ∷ es) = λ i. expr_of-to_expr e i ∷ exprs_of-to_exprs es i

abbrev pub to_plan : PlainPlan → plan.Plan
to_plan (Scan stream) = plan.Scan stream
to_plan (Filter child test) = plan.Filter' nowhere (to_plan child) (to_expr test)
to_plan (Project child columns) = plan.Project' nowhere (to_plan child) (map to_expr columns)
to_plan (Distinct child) = plan.Distinct' nowhere (to_plan child)
to_plan (Group child keys aggs) = plan.Group' nowhere (to_plan child) keys aggs
to_plan (Join left right on) = plan.Join' nowhere (to_plan left) nowhere (to_plan right) on
to_plan (Concat left right) = plan.Concat' nowhere (to_plan left) nowhere (to_plan right)
to_plan (Order child keys) = plan.Order' nowhere (to_plan child) keys

pub plan_of-to_plan : (p : PlainPlan) → plan_of (to_plan p) ≡ p
plan_of-to_plan (Scan stream) = refl
plan_of-to_plan (Filter child test) = λ i. Filter (plan_of-to_plan child i) (expr_of-to_expr test i)
plan_of-to_plan (Project child columns) = λ i. Project (plan_of-to_plan child i) (exprs_of-to_exprs columns i)
plan_of-to_plan (Distinct child) = λ i. Distinct (plan_of-to_plan child i)
plan_of-to_plan (Group child keys aggs) = λ i. Group (plan_of-to_plan child i) keys aggs
plan_of-to_plan (Join left right on) = λ i. Join (plan_of-to_plan left i) (plan_of-to_plan right i) on
plan_of-to_plan (Concat left right) = λ i. Concat (plan_of-to_plan left i) (plan_of-to_plan right i)
plan_of-to_plan (Order child keys) = λ i. Order (plan_of-to_plan child i) keys

abbrev pub plan_code : Coded PlainPlan
plan_code = code_by plan.Plan a_plan.the_row.coded to_plan plan_of plan_of-to_plan

abbrev pub typed_code : Coded TypedPlan
typed_code =
    code_by (PlainPlan × (List _ × List ℕ)) (coded× plan_code (coded× (coded_list a_kind.the_row.coded) (coded_list coded_ℕ)))
    (λ t. (t.plan, (t.kinds, t.leaves))) (λ p. record { plan = p.0; kinds = p.1.0; leaves = p.1.1 }) (λ _. refl)
