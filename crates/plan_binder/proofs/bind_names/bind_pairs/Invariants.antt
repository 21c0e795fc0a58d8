-- The places so far are those of the pairs so far.
use Rattle.plan_core.specs.AllThere.{HasFound}
use Rattle.plan_binder.specs.Binding.{bound_pair}
use Rattle.plan_binder.proofs.bind_names.bind_pairs.Given as goal

abbrev pub invariant-loop-pair : goal.invariant-loop-pair
invariant-loop-pair l = HasFound (bound_pair l.lefts l.rights) l.pairs l.pair-index l.found.items
