-- What was found so far is of the items so far.
use Rattle.plan_core.specs.AllThere.{HasFound}
use Rattle.plan_binder.proofs.bind_names.bind_all.Given as goal

abbrev pub invariant-loop-named : goal.invariant-loop-named
invariant-loop-named g l = HasFound (g.T.Bind.bound l.names) l.items l.named-index l.found.items
