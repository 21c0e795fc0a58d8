use Rattle.std.proofs.Common.{◌+◌, sym, arith}
use Rattle.gated_log.proofs.Crash.{length-front_empty}
use Rattle.gated_log.proofs.Places.{length-front_more, length-front_take}
use Rattle.gated_log.proofs.reading.length_of_front.Goals as goal

pub loop-body-init : goal.loop-body-init
loop-body-init c = sym length-front_empty

pub overflow_add-len-in-loop-body : goal.overflow_add-len-in-loop-body
overflow_add-len-in-loop-body c =
    omega (
      arith,
      length-front_more c.args.bodies.now c.loop-body.body-index c.body-item.result (omega arith) c.body-item.is,
      length-front_take c.args.bodies.now (c.loop-body.body-index + 1),
      c.len.ensures,
    )

pub loop-body-preserved : goal.loop-body-preserved
loop-body-preserved c =
    omega (arith, length-front_more c.args.bodies.now c.loop-body.body-index c.body-item.result (omega arith) c.body-item.is, c.len.ensures)
