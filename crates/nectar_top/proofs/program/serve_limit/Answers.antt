use Rattle.std.proofs.Common.{◌≡◌, [], take, ap, subst, arith, rules, length-take, refl}
use Rattle.std.specs.Io.KnownBytes.{Consumes}
use Rattle.nectar_top.proofs.TurnLemmas.{done_since, err_since, Serving-read, Ends-too_long, Ends-read}
use Rattle.nectar_top.proofs.program.serve_limit.Goals as goal

pub returns-in-Ok-eq0-clause-done : goal.returns-in-Ok-eq0-clause-done
returns-in-Ok-eq0-clause-done g c = λ told. done_since c.end.result (c.end.ensures.done told) (λ summary ends found origin served begun at full.
    let zero : c.in-Ok-eq0.field-0 ≡ 0 = search rules in
    let none : take c.in-Ok-eq0.field-0 c.read.new.buf ≡ [] = ap (λ n. take n c.read.new.buf) zero in
    ends found origin served begun _ (Serving-read found _ _ _ _ _ served begun _ _ _ _ at _ [] (subst (Consumes _ _) none c.in-Ok-eq0.ensures.bytes)) (c.in-Ok-eq0.ensures.end (search rules)) (omega (arith, full)))

pub returns-in-Ok-eq0-clause-err : goal.returns-in-Ok-eq0-clause-err
returns-in-Ok-eq0-clause-err g c = λ told. err_since c.end.result (c.end.ensures.err told) (λ exit ends found origin served begun at full.
    let zero : c.in-Ok-eq0.field-0 ≡ 0 = search rules in
    let none : take c.in-Ok-eq0.field-0 c.read.new.buf ≡ [] = ap (λ n. take n c.read.new.buf) zero in
    ends found origin served begun _ (Serving-read found _ _ _ _ _ served begun _ _ _ _ at _ [] (subst (Consumes _ _) none c.in-Ok-eq0.ensures.bytes)) (c.in-Ok-eq0.ensures.end (search rules)) (omega (arith, full)))

pub returns-in-Ok-clause-err : goal.returns-in-Ok-clause-err
returns-in-Ok-clause-err g c = λ told found origin served begun at full.
    Ends-too_long found _ _ _ _ _ served begun _ _ _ _ at _ (take c.in-Ok.field-0 c.read.new.buf) full (omega (arith, c.in-Ok.field-0-test, c.in-Ok.ensures.bound, c.read.auto.buf, length-take c.in-Ok.field-0 c.read.new.buf)) c.in-Ok.ensures.bytes

pub returns-in-Err-clause-err : goal.returns-in-Err-clause-err
returns-in-Err-clause-err g c = λ told found origin served begun at full. Ends-read found _ _ _ _ _ served begun _ _ _ _ at _ (omega (arith, full)) c.in-Err.ensures.failed

pub returns-in-Err-clause-cause : goal.returns-in-Err-clause-cause
returns-in-Err-clause-cause g c = (c.in-Err.ensures.cause, refl)
