-- The first of equal rows so far.
use Rattle.std.proofs.Common.{◌≡◌, take}
use Rattle.plan_core.specs.Distinct.{distinct_rows}
use Rattle.plan_evaluator.proofs.operators.distinct_rows.Given as goal

abbrev pub invariant-loop-row : goal.invariant-loop-row
invariant-loop-row l = l.different.items ≡ distinct_rows (take l.row-index l.rows)
