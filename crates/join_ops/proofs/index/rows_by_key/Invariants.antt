-- Under each key there are the rows so far that have it.
use Rattle.std.proofs.Common.{take}
use Rattle.join_ops.specs.RowsByKey.{HasRowsByKey}
use Rattle.join_ops.proofs.index.rows_by_key.Given as goal

abbrev pub invariant-loop-row : goal.invariant-loop-row
invariant-loop-row l = HasRowsByKey l.on (take l.row-index l.rights) l.index
