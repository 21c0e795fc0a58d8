-- The names so far are those of the items so far.
use Rattle.std.proofs.Common.{◌≡◌, map, take}
use Rattle.plan_binder.proofs.result_columns.names_of.Given as goal

abbrev pub invariant-loop-named : goal.invariant-loop-named
invariant-loop-named g l = l.names.items ≡ map g.T.Named.name_of (take l.named-index l.items)
