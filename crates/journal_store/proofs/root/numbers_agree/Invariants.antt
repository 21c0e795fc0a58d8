use Rattle.std.proofs.Common.{◌≡◌, take}
use Rattle.gated_log.specs.Logs.{contents}
use Rattle.journal_store.specs.Readings.{numbers_below}
use Rattle.journal_store.proofs.root.numbers_agree.Given as goal

abbrev pub invariant-loop-i : goal.invariant-loop-i
invariant-loop-i l = take l.i (contents l.bodies) ≡ numbers_below l.i
