-- The names that are left have a repeat where all names have.
use Rattle.std.proofs.Common.{◌≡◌, length}
use Rattle.plan_binder.specs.Binding.{has_repeat}
use Rattle.plan_binder.proofs.bind_names.has_repeat.Given as goal

abbrev pub invariant-loop-rest : goal.invariant-loop-rest
invariant-loop-rest l = has_repeat l.names ≡ has_repeat l.rest

abbrev pub decreases-loop-rest : goal.decreases-loop-rest
decreases-loop-rest l = length l.rest
