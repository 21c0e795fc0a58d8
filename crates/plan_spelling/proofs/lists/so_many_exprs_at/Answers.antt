-- One expression more at each turn.
use Rattle.std.proofs.Common.{map}
use Rattle.std.proofs.lemmas.Result.{err_from_is_err_and}
use Rattle.std.proofs.lemmas.List.{map-append}
use Rattle.plan_core.specs.PlainExpr.{expr_of}
use Rattle.byte_formats.proofs.Loop.{read_start, read_more, read_end, read_fails}
use Rattle.plan_spelling.specs.Formats.{expr_format}
use Rattle.plan_spelling.proofs.lists.so_many_exprs_at.Goals as goal

pub loop-init : goal.loop-init
loop-init c = rw c.new-exprs.ensures.items (read_start (expr_format c.args.depth).read c.args.count c.args.bytes.now)

pub returns-in_err-expr : goal.returns-in_err-expr
returns-in_err-expr c =
    let p = err_from_is_err_and c.from_residual.result c.from_residual.ensures.1 in
    rw (p.1, p.2)
    (read_fails (expr_format c.args.depth).read c.in_err-expr.field-0.0 c.args.count c.loop.counter (map expr_of c.loop.exprs.items) c.loop.rest.now c.args.bytes.now c.loop-test.true c.in_err-expr.ensures c.loop.invariant)

pub loop-preserved : goal.loop-preserved
loop-preserved c =
    rw (c.in_ok-push.ensures.items, map-append)
    (read_more (expr_format c.args.depth).read c.args.count c.loop.counter (map expr_of c.loop.exprs.items) c.loop.rest.now (expr_of c.in_ok-expr.expr) c.in_ok-expr.after.now c.args.bytes.now c.loop-test.true c.in_ok-expr.ensures c.loop.invariant)

pub returns : goal.returns
returns c = read_end (expr_format c.args.depth).read c.args.count c.loop.counter (map expr_of c.loop.exprs.items) c.loop.rest.now c.args.bytes.now c.loop-test.false c.loop.invariant
