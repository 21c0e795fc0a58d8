use Rattle.std.proofs.Common.{Err, ap, arith}
use Rattle.nectar_top.specs.Crash.{intact}
use Rattle.nectar_top.specs.Outside.{faults}
use Rattle.nectar_top.proofs.CompleteLemmas.{complete_served, complete_unserved}
use Rattle.nectar_top.proofs.ExitLemmas.{served_ends}
use Rattle.nectar_top.proofs.LoadingLemmas.{again, ends_again, goes_on}
use Rattle.nectar_top.proofs.TurnLemmas.{done_since, err_since, err_both}
use Rattle.nectar_top.proofs.program.answer_script.Goals as goal

pub returns-in-Ok-clause-done : goal.returns-in-Ok-clause-done
returns-in-Ok-clause-done g c = λ told. done_since c.serve.result (c.serve.ensures.done told) (λ summary ends found left. ends found c.args.store.now _ (c.in-Ok.ensures.server told found left c.args.quiet _ _))

pub returns-in-Ok-clause-err : goal.returns-in-Ok-clause-err
returns-in-Ok-clause-err g c = λ told. err_since c.serve.result (c.serve.ensures.err told) (λ exit ends found left. served_ends found _ _ exit _ _ (ends found c.args.store.now _ (c.in-Ok.ensures.server told found left c.args.quiet _ _)))

pub returns-in-Ok-clause-complete : goal.returns-in-Ok-clause-complete
returns-in-Ok-clause-complete g c = λ told s input left short none. err_both c.serve.result (c.serve.ensures.err told) c.serve.ensures.cause (λ exit ends cause.
    absurd (complete_served s _ _ exit _ _ input
    (faults (g.S.Source.faults c.args.source.now) (g.K.Sink.faults c.args.sink.now) (g.D.Store.counts c.args.store.now))
    (faults (g.S.Source.faults c.args.source.now) (g.K.Sink.faults c.args.sink.now) (g.D.Store.counts c.begin.new.store)) _
    (ends (intact s) c.args.store.now _ (c.in-Ok.ensures.server told (intact s) left c.args.quiet _ _)) short (record { source = omega arith; sink = omega arith; store = c.begin.ensures.counts }) cause none))

pub returns-in-Ok-clause-stopped : goal.returns-in-Ok-clause-stopped
returns-in-Ok-clause-stopped g c = λ told file at stops. absurd (goes_on _ file at (c.in-Ok.ensures.stopped told file at stops))

pub returns-in-Err-clause-complete : goal.returns-in-Err-clause-complete
returns-in-Err-clause-complete g c = λ told s input left short none. complete_unserved s _ c.in-Err.exit _ _ c.in-Err.ensures.cause none left (λ file at e. (c.in-Err.ensures.not_a_store told file at (ap Err e)).0)

pub returns-in-Err-clause-not_a_store : goal.returns-in-Err-clause-not_a_store
returns-in-Err-clause-not_a_store g c = λ told file at is. c.in-Err.ensures.not_a_store told file at (again c.in-Err.exit _ is)

pub returns-in-Err-clause-stopped : goal.returns-in-Err-clause-stopped
returns-in-Err-clause-stopped g c = λ told file at stops. ends_again c.in-Err.exit file at (c.in-Err.ensures.stopped told file at stops)
