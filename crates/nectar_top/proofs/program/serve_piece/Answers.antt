use Rattle.std.proofs.Common.{take, arith, length-append, length-take, refl}
use Rattle.nectar_top.proofs.CauseLemmas.{source_first}
use Rattle.nectar_top.proofs.TurnLemmas.{Serving-read, Ends-read}
use Rattle.nectar_top.proofs.program.serve_piece.Goals as goal

pub returns-in-Ok-take-clause-ok : goal.returns-in-Ok-take-clause-ok
returns-in-Ok-take-clause-ok g c = λ told found origin served begun at. (
  take c.in-Ok.count c.read.new.buf,
  omega (arith, c.in-Ok.ensures.bound, length-take c.in-Ok.count c.read.new.buf),
  c.in-Ok-take.ensures.ok told found origin served begun _ (Serving-read found _ _ _ _ _ served begun _ _ _ _ at _ (take c.in-Ok.count c.read.new.buf) c.in-Ok.ensures.bytes),
)

pub returns-in-Err-take-clause-err : goal.returns-in-Err-take-clause-err
returns-in-Err-take-clause-err g c = λ told found origin served begun at within.
    c.in-Err-take.ensures.err told found origin served begun _ (Serving-read found _ _ _ _ _ served begun _ _ _ _ at _ (take c.in-Ok.count c.read.new.buf) c.in-Ok.ensures.bytes)
    (omega (arith, within, c.in-Ok.ensures.bound, c.read.auto.buf, length-take c.in-Ok.count c.read.new.buf, length-append served (take c.in-Ok.count c.read.new.buf)))

pub returns-in-Err-clause-err : goal.returns-in-Err-clause-err
returns-in-Err-clause-err g c = λ told found origin served begun at within. Ends-read found _ _ _ _ _ served begun _ _ _ _ at _ (omega (arith, within)) c.in-Err.ensures.failed

pub returns-in-Ok-take-clause-counts : goal.returns-in-Ok-take-clause-counts
returns-in-Ok-take-clause-counts g c = source_first _ _ _ _ _ _ c.read.ensures.counts (c.take.ensures.counts _)

pub returns-in-Err-take-clause-counts : goal.returns-in-Err-take-clause-counts
returns-in-Err-take-clause-counts g c = source_first _ _ _ _ _ _ c.read.ensures.counts (c.take.ensures.counts _)

pub returns-in-Err-clause-cause : goal.returns-in-Err-clause-cause
returns-in-Err-clause-cause g c = (c.in-Err.ensures.cause, refl)
