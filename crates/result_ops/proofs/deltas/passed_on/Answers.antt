-- The new rows have the kinds of the input's columns.
use Rattle.std.proofs.Common.{sym, subst, List, map, All, IsSome}
use Rattle.rows_core.specs.Value.{kind_of}
use Rattle.plan_core.specs.ExpressionKind.{IsTyped}
use Rattle.plan_core.specs.PlainExpr.{expr_of}
use Rattle.plan_core.specs.PlainPlan.{plan_of}
use Rattle.plan_core.specs.PlanTyping.{Kinds, plan_kinds}
use Rattle.result_ops.specs.Fitting.{OfPassed, FitRows}
use Rattle.result_ops.proofs.FitInputs.{columns_typed_on}
use Rattle.result_ops.proofs.deltas.passed_on.Goals as goal

pub select_rows-requires : goal.select_rows-requires
select_rows-requires c =
    let ready = subst (λ p. (schemas : List Kinds) × IsSome (plan_kinds schemas (plan_of p)) × OfPassed (FitRows schemas c.args.rows.items) (plan_of p)) c.in-Project.is c.requires in
    subst (λ columns. All (λ row. All (λ column. IsTyped (map kind_of row) (expr_of column)) columns) c.deref.result.now) (sym c.items.ensures)
    (subst (λ rows. All (λ row. All (λ column. IsTyped (map kind_of row) (expr_of column)) c.in-Project.columns) rows) (sym c.deref.ensures.value)
    (columns_typed_on c.typed_plans_give_typed_rows.ensures ready.0 (plan_of c.in-Project.child.value) c.in-Project.columns c.args.rows.items ready.1 ready.2))
