-- The ids so far.
use Rattle.std.proofs.Common.{◌≡◌, ◌-◌}
use Rattle.work_plan.specs.Planning.{ids_from}
use Rattle.work_plan.proofs.ids.ids_from.Given as goal

abbrev pub invariant-loop-id : goal.invariant-loop-id
invariant-loop-id l = l.ids.items ≡ ids_from l.fn.first (l.id - l.fn.first)
