-- An expression is its tag and what stands behind it.
use Rattle.std.proofs.Common.{◌∙◌, sym, subst, arith}
use Rattle.std.proofs.lemmas.Result.{err_from_is_err_and}
use Rattle.plan_core.specs.PlainExpr.{expr_of}
use Rattle.byte_formats.specs.Reading.{Gives, Fails}
use Rattle.byte_formats.specs.Format.{times}
use Rattle.byte_formats.proofs.Nodes.{node_reads}
use Rattle.plan_spelling.specs.Formats.{operation, arity, call_of, expr_format}
use Rattle.plan_spelling.specs.Reading.{expr_behind}
use Rattle.plan_spelling.proofs.Steps.{expr_too_deep, expr_reads, expr_fails}
use Rattle.plan_spelling.proofs.expr.+expr.Goals as goal

pub expr_at-returns-then-depth-eq0 : goal.expr_at-returns-then-depth-eq0
expr_at-returns-then-depth-eq0 t c = expr_too_deep c.args.depth c.args.bytes.now c.if-depth-eq0.true

pub expr_at-returns-in_err-tag : goal.expr_at-returns-in_err-tag
expr_at-returns-in_err-tag t c =
    let p = err_from_is_err_and c.from_residual.result c.from_residual.ensures.1 in
    rw (p.1, p.2) (expr_fails c.in_err-tag.field-0.0 c.args.depth c.args.bytes.now (omega arith) c.in_err-tag.ensures)

pub expr_at-returns-in_err-expr : goal.expr_at-returns-in_err-expr
expr_at-returns-in_err-expr t c =
    let p = err_from_is_err_and c.from_residual-in_err-expr.result c.from_residual-in_err-expr.ensures.1 in
    rw (p.1, p.2)
    (subst (λ r. Fails c.in_err-expr.field-0.0 r) (sym (expr_reads c.args.depth c.in_ok-tag.tag c.args.bytes.now c.in_ok-tag.rest.now (omega arith) c.in_ok-tag.ensures)) c.in_err-expr.ensures)

pub expr_at-returns : goal.expr_at-returns
expr_at-returns t c = expr_reads c.args.depth c.in_ok-tag.tag c.args.bytes.now c.in_ok-tag.rest.now (omega arith) c.in_ok-tag.ensures ∙ c.in_ok-expr.ensures

-- ---- each tag's own row

pub expr_behind-returns-in-Column : goal.expr_behind-returns-in-Column
expr_behind-returns-in-Column t c = subst (λ tag. Gives (λ x. (expr_of x.0, x.1.now)) c.column_at.result (expr_behind c.args.depth tag c.args.bytes.now)) (sym c.in-Column.is) c.column_at.ensures

pub expr_behind-returns-in-Int : goal.expr_behind-returns-in-Int
expr_behind-returns-in-Int t c = subst (λ tag. Gives (λ x. (expr_of x.0, x.1.now)) c.int_at.result (expr_behind c.args.depth tag c.args.bytes.now)) (sym c.in-Int.is) c.int_at.ensures

pub expr_behind-returns-in-Text : goal.expr_behind-returns-in-Text
expr_behind-returns-in-Text t c = subst (λ tag. Gives (λ x. (expr_of x.0, x.1.now)) c.text_literal_at.result (expr_behind c.args.depth tag c.args.bytes.now)) (sym c.in-Text.is) c.text_literal_at.ensures

pub expr_behind-returns-in-Bool : goal.expr_behind-returns-in-Bool
expr_behind-returns-in-Bool t c = subst (λ tag. Gives (λ x. (expr_of x.0, x.1.now)) c.bool_at.result (expr_behind c.args.depth tag c.args.bytes.now)) (sym c.in-Bool.is) c.bool_at.ensures

pub expr_behind-returns-in-And : goal.expr_behind-returns-in-And
expr_behind-returns-in-And t c = subst (λ tag. Gives (λ x. (expr_of x.0, x.1.now)) c.and_at.result (expr_behind c.args.depth tag c.args.bytes.now)) (sym c.in-And.is) c.and_at.ensures

pub expr_behind-returns-in-Or : goal.expr_behind-returns-in-Or
expr_behind-returns-in-Or t c = subst (λ tag. Gives (λ x. (expr_of x.0, x.1.now)) c.or_at.result (expr_behind c.args.depth tag c.args.bytes.now)) (sym c.in-Or.is) c.or_at.ensures

pub expr_behind-returns-in-If : goal.expr_behind-returns-in-If
expr_behind-returns-in-If t c = subst (λ tag. Gives (λ x. (expr_of x.0, x.1.now)) c.if_at.result (expr_behind c.args.depth tag c.args.bytes.now)) (sym c.in-If.is) c.if_at.ensures

pub expr_behind-returns-in-Call : goal.expr_behind-returns-in-Call
expr_behind-returns-in-Call t c = subst (λ tag. Gives (λ x. (expr_of x.0, x.1.now)) c.call_at.result (expr_behind c.args.depth tag c.args.bytes.now)) (sym c.in-Call.is) c.call_at.ensures

pub call_at-returns : goal.call_at-returns
call_at-returns t c =
    node_reads operation (λ row. times (arity row) (expr_format c.args.depth)) call_of c.in_ok-row.row c.args.bytes.now c.in_ok-row.rest.now c.in_ok-row.ensures.read ∙ c.in_ok-call.ensures
