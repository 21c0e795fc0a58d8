-- What is given is the rows that are kept so far, and then what the other rows give.
use Rattle.std.proofs.Common.{◌≡◌, drop}
use Rattle.plan_core.specs.PlainExpr.{expr_of}
use Rattle.plan_core.specs.Filter.{filter_rows}
use Rattle.plan_evaluator.specs.Evaluation.{onto}
use Rattle.plan_evaluator.proofs.operators.filter_rows.Given as goal

abbrev pub invariant-loop-row : goal.invariant-loop-row
invariant-loop-row l = filter_rows (expr_of l.test) l.rows ≡ onto l.kept.items (filter_rows (expr_of l.test) (drop l.row-index l.rows))
