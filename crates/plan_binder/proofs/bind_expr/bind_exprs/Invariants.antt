-- The expressions so far are those of the columns so far.
use Rattle.std.proofs.Common.{map}
use Rattle.plan_core.specs.PlainExpr as bound
use Rattle.plan_core.specs.AllThere.{HasFound}
use Rattle.plan_text.specs.PlainNamed.{expr_of}
use Rattle.plan_binder.specs.Binding.{bound_expr}
use Rattle.plan_binder.proofs.bind_expr.bind_exprs.Given as goal

abbrev pub invariant-loop-column : goal.invariant-loop-column
invariant-loop-column l =
    HasFound (λ column. bound_expr l.input.names l.input.kinds (expr_of column.expr)) l.columns l.column-index (map bound.expr_of l.found.items)
