-- The copies so far are the expressions so far.
use Rattle.std.proofs.Common.{◌≡◌, map, take}
use Rattle.plan_core.specs.PlainExpr.{expr_of}
use Rattle.plan_core.proofs.plan.copy_exprs.Given as goal

abbrev pub invariant-loop-expr : goal.invariant-loop-expr
invariant-loop-expr l = map expr_of l.copies.items ≡ map expr_of (take l.expr-index l.exprs)
