-- The bytes so far are those of the header.
use Rattle.std.proofs.Common.{◌≡◌, ◌≤◌, take, length}
use Rattle.gated_log.specs.Logs.{header}
use Rattle.gated_log.proofs.reading.header_agrees.Given as goal

abbrev pub invariant-loop-i : goal.invariant-loop-i
invariant-loop-i l = record { same : take l.i l.bytes ≡ take l.i header; within : l.i ≤ length l.bytes }
