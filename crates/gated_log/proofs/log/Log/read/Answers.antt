use Rattle.std.proofs.Common.{arith}
use Rattle.gated_log.specs.Logs.{contents}
use Rattle.gated_log.proofs.Places.{front_long}
use Rattle.gated_log.proofs.log.Log.read.Goals as goal

pub invariant_of-result : goal.invariant_of-result
invariant_of-result g c = record { has_header = omega (arith, front_long (contents c.in_ok-bodies.field-0.bodies.items), c.in_ok-bodies.ensures.end) }
