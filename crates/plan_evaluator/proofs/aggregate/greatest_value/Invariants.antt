-- The greatest value is that of the rows that are left and the greatest one of the others.
use Rattle.std.proofs.Common.{◌≡◌, ◌∷◌, ◌++◌, [], length}
use Rattle.plan_core.specs.Aggregate.{values_of, greatest_value}
use Rattle.plan_evaluator.proofs.aggregate.greatest_value.Given as goal

abbrev pub invariant-loop-row : goal.invariant-loop-row
invariant-loop-row l = greatest_value (values_of l.column l.rows) ≡ greatest_value (values_of l.column l.rest ++ l.greatest ∷ [])

abbrev pub decreases-loop-row : goal.decreases-loop-row
decreases-loop-row l = length l.rest
