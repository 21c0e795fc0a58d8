-- The bytes are a log's front with the bodies so far, and then the rest.
use Rattle.std.proofs.Common.{◌≡◌, ◌++◌, length}
use Rattle.std.specs.List.{All}
use Rattle.gated_log.specs.Logs.{front, contents, IsBody}
use Rattle.gated_log.proofs.reading.parse_blocks.Given as goal

abbrev pub invariant-loop-rest : goal.invariant-loop-rest
invariant-loop-rest l = record { is : l.bytes ≡ front (contents l.bodies.items) ++ l.rest; sizes : All IsBody (contents l.bodies.items) }

abbrev pub decreases-loop-rest : goal.decreases-loop-rest
decreases-loop-rest l = length l.rest
