use Rattle.std.proofs.Common.{◌∙◌, ◌++◌, length-append, length-take, arith, rules}
use Rattle.nectar_top.proofs.CauseLemmas.{none_fell_on, caused_since}
use Rattle.nectar_top.proofs.TurnLemmas.{done_since, err_since, ok_since}
use Rattle.nectar_top.proofs.program.serve.Goals as goal

-- the limit is reached
pub returns-then-taken-eq-MAX_SCRIPT_LEN-clause-done : goal.returns-then-taken-eq-MAX_SCRIPT_LEN-clause-done
returns-then-taken-eq-MAX_SCRIPT_LEN-clause-done g c = λ told. done_since c.serve_limit.result (c.serve_limit.ensures.done told) (λ summary ends found origin begun new.
    let at = c.loop.invariant.serving told found origin begun new in
    ends found origin at.0 begun at.2 (omega (arith, at.1)))

pub returns-then-taken-eq-MAX_SCRIPT_LEN-clause-err : goal.returns-then-taken-eq-MAX_SCRIPT_LEN-clause-err
returns-then-taken-eq-MAX_SCRIPT_LEN-clause-err g c = λ told. err_since c.serve_limit.result (c.serve_limit.ensures.err told) (λ exit ends found origin begun new.
    let at = c.loop.invariant.serving told found origin begun new in
    ends found origin at.0 begun at.2 (omega (arith, at.1)))

-- the script ends
pub returns-in-Ok-default-eq0-clause-done : goal.returns-in-Ok-default-eq0-clause-done
returns-in-Ok-default-eq0-clause-done g c = λ told. done_since c.end.result (c.end.ensures.done told) (λ summary ends found origin begun new.
    let at = c.loop.invariant.serving told found origin begun new in
    let next = c.in-Ok-default-eq0.ensures.ok told found origin at.0 begun at.2 in
    ends found origin (at.0 ++ next.0) begun _ next.2 (c.in-Ok-default-eq0.ensures.end (search rules)) (omega (arith, at.1, c.loop.invariant.within, next.1, length-append at.0 next.0)))

pub returns-in-Ok-default-eq0-clause-err : goal.returns-in-Ok-default-eq0-clause-err
returns-in-Ok-default-eq0-clause-err g c = λ told. err_since c.end.result (c.end.ensures.err told) (λ exit ends found origin begun new.
    let at = c.loop.invariant.serving told found origin begun new in
    let next = c.in-Ok-default-eq0.ensures.ok told found origin at.0 begun at.2 in
    ends found origin (at.0 ++ next.0) begun _ next.2 (c.in-Ok-default-eq0.ensures.end (search rules)) (omega (arith, at.1, c.loop.invariant.within, next.1, length-append at.0 next.0)))

pub returns-in-Err-clause-err : goal.returns-in-Err-clause-err
returns-in-Err-clause-err g c = λ told found origin begun new.
    let at = c.loop.invariant.serving told found origin begun new in
    c.in-Err.ensures.err told found origin at.0 begun at.2 (omega (arith, at.1, c.loop.invariant.within, length-take c.min-room.result c.loop.piece))

pub loop-preserved : goal.loop-preserved
loop-preserved g c = record {
  within = omega (arith, c.loop.invariant.within, c.in-Ok.ensures.bound, length-take c.min-room.result c.loop.piece);
  turns = omega (arith, c.loop.invariant.turns, c.in-Ok.count-test.1);
  holds = c.in-Ok.ensures.holds;
  serving = λ told found origin begun new.
      let at = c.loop.invariant.serving told found origin begun new in
      let next = c.in-Ok.ensures.ok told found origin at.0 begun at.2 in
      (at.0 ++ next.0, omega (arith, at.1, next.1, length-append at.0 next.0), next.2);
  counts = none_fell_on _ _ _ c.loop.invariant.counts c.serve_piece.ensures.counts;
  writes = c.in-Ok.ensures.no_fault ∙ c.loop.invariant.writes;
}

pub returns-in-Ok-default-eq0-clause-cause : goal.returns-in-Ok-default-eq0-clause-cause
returns-in-Ok-default-eq0-clause-cause g c = err_since c.end.result c.end.ensures.cause (λ exit cause.
    caused_since _ _ _ _ (none_fell_on _ _ _ c.loop.invariant.counts c.serve_piece.ensures.counts) (c.in-Ok-default-eq0.ensures.no_fault ∙ c.loop.invariant.writes) (cause _))

pub returns-in-Ok-default-eq0-clause-no_fault : goal.returns-in-Ok-default-eq0-clause-no_fault
returns-in-Ok-default-eq0-clause-no_fault g c = ok_since c.end.result c.end.ensures.no_fault (λ same. same ∙ c.in-Ok-default-eq0.ensures.no_fault ∙ c.loop.invariant.writes)

pub returns-then-taken-eq-MAX_SCRIPT_LEN-clause-cause : goal.returns-then-taken-eq-MAX_SCRIPT_LEN-clause-cause
returns-then-taken-eq-MAX_SCRIPT_LEN-clause-cause g c = err_since c.serve_limit.result c.serve_limit.ensures.cause (λ exit cause. caused_since _ _ _ _ c.loop.invariant.counts c.loop.invariant.writes cause)

pub returns-then-taken-eq-MAX_SCRIPT_LEN-clause-no_fault : goal.returns-then-taken-eq-MAX_SCRIPT_LEN-clause-no_fault
returns-then-taken-eq-MAX_SCRIPT_LEN-clause-no_fault g c = ok_since c.serve_limit.result c.serve_limit.ensures.no_fault (λ same. same ∙ c.loop.invariant.writes)

pub returns-in-Err-clause-cause : goal.returns-in-Err-clause-cause
returns-in-Err-clause-cause g c = caused_since _ _ _ _ c.loop.invariant.counts c.loop.invariant.writes c.in-Err.ensures.cause
