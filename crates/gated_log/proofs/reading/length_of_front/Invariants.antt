-- The length so far is that of the bodies so far.
use Rattle.std.proofs.Common.{◌≡◌, take, length}
use Rattle.gated_log.specs.Logs.{front, contents}
use Rattle.gated_log.proofs.reading.length_of_front.Given as goal

abbrev pub invariant-loop-body : goal.invariant-loop-body
invariant-loop-body l = l.len ≡ length (front (contents (take l.body-index l.bodies)))
