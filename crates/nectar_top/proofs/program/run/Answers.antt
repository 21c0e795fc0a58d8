use Rattle.std.proofs.Common.{Err, None, Some, ap, inl, inr, refl}
use Rattle.nectar_top.specs.Crash.{intact}
use Rattle.nectar_top.specs.Outside.{shown}
use Rattle.nectar_top.specs.declared.exit.Exit.TheVariants as exit
use Rattle.nectar_top.proofs.CompleteLemmas.{complete_done}
use Rattle.nectar_top.proofs.ExitLemmas.{completes_at, not_some}
use Rattle.nectar_top.proofs.LoadingLemmas.{goes_on, exit_told}
use Rattle.nectar_top.proofs.program.run.Goals as goal

pub returns-in-Some-clause-complete : goal.returns-in-Some-clause-complete
returns-in-Some-clause-complete g c = λ told s input left either none.
    completes_at c.args.words.now.generate (Some c.in-Some.number) c.in-Some.is s (g.D.Store.view c.args.store.now) (g.D.Store.view c.run_generated.new.store) c.run_generated.result
    (shown c.args.words.now.quiet (g.S.Source.left c.args.source.now) (g.K.Sink.written c.args.sink.now) (g.D.Store.counts c.args.store.now))
    (shown c.args.words.now.quiet (g.S.Source.left c.args.source.now) (g.K.Sink.written c.run_generated.new.sink) (g.D.Store.counts c.run_generated.new.store))
    (c.run_generated.ensures.complete told s left (g.S.Source.faults c.args.source.now) none c.args.words.now.quiet (g.S.Source.left c.args.source.now))

pub returns-in-Ok-clause-complete : goal.returns-in-Ok-clause-complete
returns-in-Ok-clause-complete g c = λ told s input left either none.
    completes_at c.args.words.now.generate None c.in-None.is s (g.D.Store.view c.args.store.now) (g.D.Store.view c.answer_script.new.store) exit.Done
    (shown c.args.words.now.quiet (g.S.Source.left c.args.source.now) (g.K.Sink.written c.args.sink.now) (g.D.Store.counts c.args.store.now))
    (shown c.args.words.now.quiet (g.S.Source.left c.answer_script.new.source) (g.K.Sink.written c.answer_script.new.sink) (g.D.Store.counts c.answer_script.new.store))
    (inl (refl, complete_done s _ _ _ _ (c.in-Ok.ensures.done told (intact s) left).0 none.reads))

pub returns-in-Ok-clause-stopped : goal.returns-in-Ok-clause-stopped
returns-in-Ok-clause-stopped g c = λ told file at stops. absurd (goes_on _ file at (c.in-Ok.ensures.stopped told file at stops))

pub returns-in-Err-clause-complete : goal.returns-in-Err-clause-complete
returns-in-Err-clause-complete g c = λ told s input left either none. elim either [
  | inl some ↦ absurd (not_some _ c.in-None.is some)
  | inr short ↦ inr (c.in-Err.ensures.complete told s input left short none)
]

pub returns-in-Err-clause-not_a_store : goal.returns-in-Err-clause-not_a_store
returns-in-Err-clause-not_a_store g c = λ told file at is. c.in-Err.ensures.not_a_store told file at (ap Err is)

pub returns-in-Err-clause-stopped : goal.returns-in-Err-clause-stopped
returns-in-Err-clause-stopped g c = λ told file at stops. exit_told c.in-Err.exit file at (c.in-Err.ensures.stopped told file at stops)
