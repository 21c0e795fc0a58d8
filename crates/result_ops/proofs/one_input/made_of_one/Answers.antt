-- The rows of the input have the kinds of its columns.
use Rattle.std.proofs.Common.{sym, subst, map, All}
use Rattle.rows_core.specs.Value.{kind_of}
use Rattle.plan_core.specs.ExpressionKind.{IsTyped}
use Rattle.plan_core.specs.PlainExpr.{expr_of}
use Rattle.plan_core.specs.PlainPlan.{plan_of}
use Rattle.result_ops.specs.Fitting.{HasFitInput}
use Rattle.result_ops.proofs.FitInputs.{tests_typed, columns_typed_on}
use Rattle.result_ops.proofs.FitResults.{rows_fit}
use Rattle.result_ops.proofs.one_input.made_of_one.Goals as goal

pub filtered-requires : goal.filtered-requires
filtered-requires c =
    let ready = subst (λ p. HasFitInput (plan_of p) c.args.input.kept) c.in-Filter.is c.requires in
    let rows = c.in_ok-input_of-in-Filter.field-0.rows.items in
    tests_typed c.typed_plans_give_typed_rows.ensures ready.0 (plan_of c.in-Filter.child.value) (expr_of c.in-Filter.test) rows ready.1
    (rows_fit ready.0 (plan_of c.in-Filter.child.value) c.args.input.kept rows ready.2 c.in_ok-input_of-in-Filter.ensures.0)

pub projected-requires : goal.projected-requires
projected-requires c =
    let ready = subst (λ p. HasFitInput (plan_of p) c.args.input.kept) c.in-Project.is c.requires in
    let rows = c.in_ok-input_of-in-Project.field-0.rows.items in
    subst (λ columns. All (λ row. All (λ column. IsTyped (map kind_of row) (expr_of column)) columns) rows) (sym c.items.ensures)
    (columns_typed_on c.typed_plans_give_typed_rows.ensures ready.0 (plan_of c.in-Project.child.value) c.in-Project.columns rows ready.1
    (rows_fit ready.0 (plan_of c.in-Project.child.value) c.args.input.kept rows ready.2 c.in_ok-input_of-in-Project.ensures.0))
