-- The entries so far, with those that are still to come.
use Rattle.std.proofs.Common.{◌≡◌, ◌++◌, map}
use Rattle.mem_outside.proofs.Histories.{left_entry}
use Rattle.mem_outside.proofs.files.left.Given as goal

abbrev pub invariant-loop-number : goal.invariant-loop-number
invariant-loop-number l =
    l.versions.entries ++ map (left_entry l.greatest l.filler l.removed_too l.history.synced) l.number-iterator
    ≡ map (left_entry l.greatest l.filler l.removed_too l.history.synced) l.history.versions.entries
