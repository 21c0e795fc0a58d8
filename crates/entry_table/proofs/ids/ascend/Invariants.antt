-- The ids that are left ascend above the last one where all do.
use Rattle.std.proofs.Common.{◌≡◌, length}
use Rattle.entry_table.specs.Ids.{ascend_above}
use Rattle.entry_table.proofs.ids.ascend.Given as goal

abbrev pub invariant-loop-rest : goal.invariant-loop-rest
invariant-loop-rest l = ascend_above 0 l.ids ≡ ascend_above l.last l.rest

abbrev pub decreases-loop-rest : goal.decreases-loop-rest
decreases-loop-rest l = length l.rest
