-- What is given is the rows that are kept so far, and then what the other rows give.
use Rattle.std.proofs.Common.{◌≡◌, Ok, drop}
use Rattle.plan_core.specs.Filter.{filter_rows}
use Rattle.plan_core.specs.PlainExpr.{expr_of}
use Rattle.plan_laws.specs.GrowthOfRows.{joined}
use Rattle.row_ops.proofs.filter.where_lent.Given as goal

abbrev pub invariant-loop-row : goal.invariant-loop-row
invariant-loop-row l = filter_rows (expr_of l.test) l.rows ≡ joined (Ok l.kept.items) (filter_rows (expr_of l.test) (drop l.row-index l.rows))
