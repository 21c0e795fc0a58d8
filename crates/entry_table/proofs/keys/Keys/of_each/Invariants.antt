-- The keys of the results passed.
use Rattle.std.proofs.Common.{◌≡◌, map, take}
use Rattle.entry_table.specs.Keyed.{keys_of}
use Rattle.entry_table.proofs.keys.Keys.of_each.Given as goal

abbrev pub invariant-loop-new : goal.invariant-loop-new
invariant-loop-new g l = l.keys.items ≡ map (keys_of (g.C.Chains.digests l.chains)) (take l.new-index l.kept)
