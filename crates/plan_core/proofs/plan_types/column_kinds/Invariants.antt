-- The kinds so far are those of the columns so far.
use Rattle.plan_core.specs.PlainExpr.{expr_of}
use Rattle.plan_core.specs.PlanTyping.{column_kind_of}
use Rattle.plan_core.specs.AllThere.{HasFound}
use Rattle.plan_core.proofs.plan_types.column_kinds.Given as goal

abbrev pub invariant-loop-column : goal.invariant-loop-column
invariant-loop-column l = HasFound (λ column. column_kind_of l.kinds (expr_of column)) l.columns l.column-index l.found.items
