-- Each item has a spelling.
use Rattle.std.proofs.Common.{ℕ, zero, suc, ◌<◌, List, [], ◌∷◌, length, map, get_or, sym, subst, arith}
use Rattle.std.specs.List.{AllByRecursion}
use Rattle.plan_core.specs.declared.expr.Expr as code
use Rattle.plan_core.specs.PlainExpr.{expr_of}
use Rattle.plan_spelling.specs.Spelling.{HasExprSpelling}
use Rattle.plan_spelling.proofs.spelling.put_exprs.Goals as goal

each_fits : (es : List code.Expr) (i : ℕ) (d : code.Expr) → i < length es → AllByRecursion HasExprSpelling (map expr_of es) → HasExprSpelling (expr_of (get_or es i d))
each_fits [] i d lt fits = absurd (omega arith)
each_fits (e ∷ es) zero d lt fits = fits.0
each_fits (e ∷ es) (suc i) d lt fits = each_fits es i d (omega arith) fits.1

pub put_expr-requires : goal.put_expr-requires
put_expr-requires c =
    subst (λ (e : code.Expr). HasExprSpelling (expr_of e)) (sym c.expr-item.is) (each_fits c.args.exprs.now c.loop-expr.expr-index c.expr-item.result c.loop-expr-test.true c.requires.1)
