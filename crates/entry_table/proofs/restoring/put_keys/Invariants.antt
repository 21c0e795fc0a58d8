-- The entries passed have their keys, and the others are as they were.
use Rattle.std.proofs.Common.{◌≡◌, ◌++◌, map, take, drop}
use Rattle.entry_table.specs.Keyed.{with_keys}
use Rattle.entry_table.proofs.restoring.put_keys.Given as goal

abbrev pub invariant-loop-place : goal.invariant-loop-place
invariant-loop-place g l =
    l.entries.items ≡ map (with_keys (g.C.Chains.digests l.chains)) (take l.place l.initial.entries.items) ++ drop l.place l.initial.entries.items
