-- The least value is that of the rows that are left and the least one of the others.
use Rattle.std.proofs.Common.{◌≡◌, ◌∷◌, ◌++◌, [], length}
use Rattle.plan_core.specs.Aggregate.{values_of, least_value}
use Rattle.plan_evaluator.proofs.aggregate.least_value.Given as goal

abbrev pub invariant-loop-row : goal.invariant-loop-row
invariant-loop-row l = least_value (values_of l.column l.rows) ≡ least_value (values_of l.column l.rest ++ l.least ∷ [])

abbrev pub decreases-loop-row : goal.decreases-loop-row
decreases-loop-row l = length l.rest
