-- The keys of the rows so far.
use Rattle.std.proofs.Common.{◌≡◌, take, map}
use Rattle.plan_core.specs.Columns.{columns_of}
use Rattle.plan_evaluator.proofs.aggregate.keys_of.Given as goal

abbrev pub invariant-loop-row : goal.invariant-loop-row
invariant-loop-row l = l.all.items ≡ map (columns_of l.keys) (take l.row-index l.rows)
