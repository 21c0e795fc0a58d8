use Rattle.nectar_top.proofs.TurnLemmas.{Done-none, Done-last, Ends-last-failed}
use Rattle.nectar_top.proofs.server.Server.end.Goals as goal

pub returns-in-Ok-clause-done : goal.returns-in-Ok-clause-done
returns-in-Ok-clause-done g c = λ told found origin served begun left at at_end within.
    Done-last found _ _ _ _ _ served begun _ at at_end within _ c.in-Some.item c.in-Some.ensures.item _ _ _ _ (c.in-Ok.ensures.ok told found.care at.progress.machine left at.progress.stands)

pub returns-clause-done : goal.returns-clause-done
returns-clause-done g c = λ told found origin served begun left at at_end within.
    Done-none found _ _ _ _ _ served begun _ at at_end within c.in-None.ensures.none

pub returns-in-Some-clause-err : goal.returns-in-Some-clause-err
returns-in-Some-clause-err g c = λ told found origin served begun left at at_end within.
    Ends-last-failed found _ _ _ _ _ served begun _ at at_end within _ c.in-Some.item c.in-Some.ensures.item c.in-Err.exit _ _ (c.in-Err.ensures.err told found.care at.progress.machine left at.progress.stands)
