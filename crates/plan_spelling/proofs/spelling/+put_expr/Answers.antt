-- A row with arguments is one of the table.
use Rattle.std.proofs.Common.{subst, arith}
use Rattle.plan_core.specs.PlainExpr.{expr_of}
use Rattle.plan_spelling.specs.Spelling.{HasExprSpelling}
use Rattle.plan_spelling.proofs.Rows.{row_below}
use Rattle.plan_spelling.proofs.spelling.+put_expr.Goals as goal

pub overflow_cast-row : goal.overflow_cast-row
overflow_cast-row t c = omega (arith, row_below c.in-Call1.row 0 (subst (λ e. HasExprSpelling (expr_of e)) c.in-Call1.is c.requires).0)

pub overflow_cast-row-in-Call2 : goal.overflow_cast-row-in-Call2
overflow_cast-row-in-Call2 t c = omega (arith, row_below c.in-Call2.row 1 (subst (λ e. HasExprSpelling (expr_of e)) c.in-Call2.is c.requires).0)
