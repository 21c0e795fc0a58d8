-- The kinds so far are those of the keys so far.
use Rattle.std.proofs.Common.{slice_get}
use Rattle.plan_core.specs.AllThere.{HasFound}
use Rattle.plan_core.proofs.plan_types.key_kinds.Given as goal

abbrev pub invariant-loop-key : goal.invariant-loop-key
invariant-loop-key l = HasFound (slice_get l.kinds) l.keys l.key-index l.found.items
