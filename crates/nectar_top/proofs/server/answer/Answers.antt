use Rattle.std.proofs.Common.{refl}
use Rattle.nectar_top.proofs.server.answer.Goals as goal

pub returns-in-Ok-send-clause-ok : goal.returns-in-Ok-send-clause-ok
returns-in-Ok-send-clause-ok g c = λ told care old left stands.
    record { answer = c.in-Ok.answer; performs = c.in-Ok.ensures.ok told care old stands; faults = c.in-Ok.ensures.faults; quiet = refl; wrote = c.in-Ok-send.ensures.ok; adds = c.with.ensures }

pub returns-in-Err-send-clause-err : goal.returns-in-Err-send-clause-err
returns-in-Err-send-clause-err g c = λ told care old left stands.
    record { session = c.in-Ok.session; answer = c.in-Ok.answer; performs = c.in-Ok.ensures.ok told care old stands; faults = c.in-Ok.ensures.faults; sent = c.in-Err-send.ensures.err }

pub returns-in-Err-clause-err : goal.returns-in-Err-clause-err
returns-in-Err-clause-err g c = λ told care old left stands. record { breaks = c.in-Err.ensures.err told care old stands; counts = c.in-Err.ensures.looks; wrote = refl }

pub returns-in-Err-send-clause-cause : goal.returns-in-Err-send-clause-cause
returns-in-Err-send-clause-cause g c = λ source. (c.in-Err-send.ensures.cause, c.in-Ok.ensures.no_fault)
