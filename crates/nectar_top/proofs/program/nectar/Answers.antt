use Rattle.nectar_top.proofs.program.nectar.Goals as goal

pub returns-in-Ok-Some-clause-stopped : goal.returns-in-Ok-Some-clause-stopped
returns-in-Ok-Some-clause-stopped g c = λ told file at some stops. c.run.ensures.stopped told file at stops
