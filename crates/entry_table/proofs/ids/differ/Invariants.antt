-- The ids that are left differ where all do.
use Rattle.std.proofs.Common.{◌≡◌, length}
use Rattle.entry_table.specs.Ids.{differ}
use Rattle.entry_table.proofs.ids.differ.Given as goal

abbrev pub invariant-loop-rest : goal.invariant-loop-rest
invariant-loop-rest l = differ l.ids ≡ differ l.rest

abbrev pub decreases-loop-rest : goal.decreases-loop-rest
decreases-loop-rest l = length l.rest
