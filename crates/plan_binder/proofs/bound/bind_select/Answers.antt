use Rattle.std.proofs.Common.{rules, ◌≡◌, ◌∙◌, sym, ap, subst, map, Err}
use Rattle.std.specs.Prelude.{Vec}
use Rattle.std.specs.declared.alloc.Global.{Global}
use Rattle.std.specs.Option.{option_and_then}
use Rattle.plan_core.specs.declared.expr.Expr.{Expr}
use Rattle.plan_core.specs.PlainExpr as bound
use Rattle.plan_core.specs.PlanTyping.{all_there}
use Rattle.plan_text.specs.PlainNamed.{expr_of, column_of}
use Rattle.plan_binder.specs.Binding.{bound_expr, bound_select, projected}
use Rattle.plan_binder.specs.BoundPlan.{bound_of}
use Rattle.plan_binder.specs.Resolves.{Resolves}
use Rattle.plan_binder.proofs.BindingLaws.{select_of_columns}
use Rattle.plan_binder.proofs.Collecting.{passes_on}
use Rattle.plan_binder.proofs.bound.bind_select.Goals as goal

pub returns-in_err-exprs : goal.returns-in_err-exprs
returns-in_err-exprs c =
    let input = bound_of c.args.input in
    let names = map (λ column. column.name) c.args.columns.now in
    let exprs = all_there (map (λ column. bound_expr input.names input.kinds (expr_of column.expr)) c.args.columns.now) in
    let whole = bound_select (map column_of c.args.columns.now) input in
    let refusal = c.in_err-exprs.field-0.0 in
    let same : c.from_residual.result ≡ Err refusal = search rules in
    subst (λ r. Resolves bound_of r whole) (sym same)
    (passes_on (λ (v : Vec Expr Global). map bound.expr_of v.items) bound_of refusal exprs whole
    (λ none. select_of_columns c.args.columns.now input ∙ ap (option_and_then (projected input names)) none) c.in_err-exprs.ensures)

pub returns : goal.returns
returns c =
    let input = bound_of c.args.input in
    let names = map (λ column. column.name) c.args.columns.now in
    subst (Resolves bound_of c.select.result)
    (sym (select_of_columns c.args.columns.now input ∙ ap (option_and_then (projected input names)) c.in_ok-exprs.ensures)) c.select.ensures
