-- The values of the columns so far.
use Rattle.std.proofs.Common.{◌≡◌, take}
use Rattle.plan_core.specs.Columns.{columns_of}
use Rattle.group_fold.proofs.accumulate.columns_of.Given as goal

abbrev pub invariant-loop-column : goal.invariant-loop-column
invariant-loop-column l = l.values.items ≡ columns_of (take l.column-index l.columns) l.row
