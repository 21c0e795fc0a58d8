-- Those of the rows so far that the set has.
use Rattle.std.proofs.Common.{take}
use Rattle.row_ops.proofs.Sets.{LendsThoseOf}
use Rattle.row_ops.proofs.distinct.found_in.Given as goal

abbrev pub invariant-loop-row : goal.invariant-loop-row
invariant-loop-row l = LendsThoseOf l.set.keys l.found.keys (take l.row-index l.rows)
