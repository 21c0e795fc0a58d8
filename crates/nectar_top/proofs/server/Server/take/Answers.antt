use Rattle.std.proofs.Common.{arith}
use Rattle.nectar_top.proofs.CauseLemmas.{none_fell_on}
use Rattle.nectar_top.proofs.TakingLemmas.{TakenSoFar-more, Serves-all, Ends-more, HasCause-more}
use Rattle.nectar_top.proofs.server.Server.take.Goals as goal

pub loop-at-preserved : goal.loop-at-preserved
loop-at-preserved g c =
    TakenSoFar-more _ _ _ _ _ _ _ _ _ _ _ _ _ _ _ _ _ _ c.args.piece.now c.loop-at.at c.loop-at.invariant _ _ _ _ _ _ _ c.in-Ok.count c.in-Ok.ensures.holds c.in-Ok.ensures.bound.1 c.in-Ok.ensures.ok c.take_command.ensures.counts c.in-Ok.ensures.no_fault

pub returns-in-Err-clause-err : goal.returns-in-Err-clause-err
returns-in-Err-clause-err g c = Ends-more _ _ _ _ _ _ _ _ _ _ _ _ _ _ _ _ _ _ c.args.piece.now c.loop-at.at c.loop-at.invariant _ _ _ _ c.in-Err.ensures.err

pub returns-in-Err-clause-cause : goal.returns-in-Err-clause-cause
returns-in-Err-clause-cause g c = HasCause-more _ _ _ _ _ _ _ _ _ _ _ _ _ _ _ _ _ _ c.args.piece.now c.loop-at.at c.loop-at.invariant _ _ _ c.in-Err.ensures.cause

pub returns-in-Err-clause-counts : goal.returns-in-Err-clause-counts
returns-in-Err-clause-counts g c = λ source. none_fell_on _ _ _ (c.loop-at.invariant.counts source) (c.take_command.ensures.counts source)

pub returns-clause-ok : goal.returns-clause-ok
returns-clause-ok g c = Serves-all _ _ _ _ _ _ _ _ _ _ _ _ _ _ _ _ _ _ c.args.piece.now c.loop-at.at c.loop-at.invariant (omega (arith, c.loop-at-test.false))

pub returns-clause-no_fault : goal.returns-clause-no_fault
returns-clause-no_fault g c = c.loop-at.invariant.writes
