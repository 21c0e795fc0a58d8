use Rattle.std.proofs.Common.{rules, ◌≡◌, ◌∙◌, ap, Err, [], ◌∷◌, ◌++◌, map}
use Rattle.std.proofs.lemmas.List.{map_push}
use Rattle.plan_core.specs.PlainExpr as bound
use Rattle.plan_core.specs.AllThere.{found_end}
use Rattle.plan_text.specs.PlainNamed.{expr_of}
use Rattle.plan_binder.specs.Binding.{bound_expr}
use Rattle.plan_binder.specs.BoundPlan.{boxed_expr_of}
use Rattle.plan_binder.proofs.Collecting.{starts, goes_on, stops}
use Rattle.plan_binder.proofs.bind_expr.bind_exprs.Goals as goal

pub loop-column-init : goal.loop-column-init
loop-column-init c = starts (λ column. bound_expr c.args.input.now.names c.args.input.now.kinds (expr_of column.expr)) c.args.columns.now (map bound.expr_of c.in_ok-found.found.items) (ap (map bound.expr_of) c.in_ok-found.ensures.items)

pub loop-column-preserved : goal.loop-column-preserved
loop-column-preserved c =
    let found = c.loop-column.found.items in
    let expr = c.in_ok-expr.expr in
    let pushed : c.push.new.items.items ≡ found ++ expr.value ∷ [] = c.in_ok-push.ensures ∙ ap (λ e. found ++ e ∷ []) c.into_inner.ensures in
    goes_on (λ column. bound_expr c.args.input.now.names c.args.input.now.kinds (expr_of column.expr)) c.args.columns.now c.loop-column.column-index c.column-item.result (map bound.expr_of found) (map bound.expr_of c.push.new.items.items) (boxed_expr_of expr)
    c.loop-column-test.true c.column-item.is c.in_ok-expr.ensures (ap (map bound.expr_of) pushed ∙ map_push bound.expr_of found expr.value) c.loop-column.invariant

pub returns-in_err-expr : goal.returns-in_err-expr
returns-in_err-expr c =
    let refusal = c.in_err-expr.field-0.0 in
    let answer = c.from_residual-in_err-expr.result in
    let same : answer ≡ Err refusal = search rules in
    stops (λ column. bound_expr c.args.input.now.names c.args.input.now.kinds (expr_of column.expr)) boxed_expr_of (λ v. map bound.expr_of v.items) refusal answer c.args.columns.now c.loop-column.column-index c.column-item.result (map bound.expr_of c.loop-column.found.items)
    same c.loop-column-test.true c.column-item.is c.loop-column.invariant c.in_err-expr.ensures

pub returns : goal.returns
returns c = found_end (λ column. bound_expr c.args.input.now.names c.args.input.now.kinds (expr_of column.expr)) c.args.columns.now c.loop-column.column-index (map bound.expr_of c.loop-column.found.items) c.loop-column-test.false c.loop-column.invariant
