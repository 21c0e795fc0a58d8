use Rattle.std.proofs.Common.{◌≤◌, ◌∙◌, Err, length, ap, inl, inr, refl, arith}
use Rattle.nectar_top.specs.Crash.{intact}
use Rattle.nectar_top.specs.Run.{longest_script}
use Rattle.nectar_top.proofs.ExitLemmas.{summed, summed_in_part, summed_whole, generated_ends, of_generated, not_done, not_sink, none_failed}
use Rattle.nectar_top.proofs.LoadingLemmas.{goes_on, exit_told}
use Rattle.nectar_top.proofs.program.run_generated.Goals as goal

pub returns-in-Ok-send_summary-clause-ends : goal.returns-in-Ok-send_summary-clause-ends
returns-in-Ok-send_summary-clause-ends g c = λ told found left quiet source.
    summed c.args.number c.deref.result.now (c.deref.ensures.value ∙ c.in-Ok.ensures.script) found _ _ _ _ _ quiet source _ _ c.in-Ok-answer_script.summary (c.in-Ok-answer_script.ensures.done told found left) c.in-Ok-send_summary.ensures.ok

pub returns-in-Ok-send_summary-clause-complete : goal.returns-in-Ok-send_summary-clause-complete
returns-in-Ok-send_summary-clause-complete g c = λ told s left count none quiet source.
    inl (refl, summed_whole c.args.number c.deref.result.now (c.deref.ensures.value ∙ c.in-Ok.ensures.script) s _ _ _ _ _ quiet source _ _ c.in-Ok-answer_script.summary (c.in-Ok-answer_script.ensures.done told (intact s) left) none.reads c.in-Ok-send_summary.ensures.ok)

pub returns-in-Ok-send_summary-clause-stopped : goal.returns-in-Ok-send_summary-clause-stopped
returns-in-Ok-send_summary-clause-stopped g c = λ told file at stops. absurd (goes_on _ file at (c.in-Ok-answer_script.ensures.stopped told file at stops))

pub returns-in-Ok-answer_script-clause-ends : goal.returns-in-Ok-answer_script-clause-ends
returns-in-Ok-answer_script-clause-ends g c = λ told found left quiet source.
    summed_in_part c.args.number c.deref.result.now (c.deref.ensures.value ∙ c.in-Ok.ensures.script) found _ _ _ _ _ quiet source _ _ c.in-Ok-answer_script.summary (c.in-Ok-answer_script.ensures.done told found left) c.in-Err-send_summary.ensures.err

pub returns-in-Ok-answer_script-clause-stopped : goal.returns-in-Ok-answer_script-clause-stopped
returns-in-Ok-answer_script-clause-stopped g c = λ told file at stops. absurd (goes_on _ file at (c.in-Ok-answer_script.ensures.stopped told file at stops))

pub returns-in-Ok-clause-ends : goal.returns-in-Ok-clause-ends
returns-in-Ok-clause-ends g c = λ told found left quiet source.
    let short : length c.deref.result.now ≤ longest_script = omega (arith, ap length c.deref.ensures.value, c.in-Ok.ensures.short) in
    generated_ends c.args.number c.deref.result.now (c.deref.ensures.value ∙ c.in-Ok.ensures.script) found _ _ _ _ _ quiet source _ _ short c.in-Err-answer_script.exit (c.in-Err-answer_script.ensures.err told found left)
    (of_generated _ _ _ _ c.in-Err-answer_script.exit c.in-Err-answer_script.ensures.cause) (not_done _ _ _ _ c.in-Err-answer_script.exit c.in-Err-answer_script.ensures.cause) (not_sink _ _ _ _ c.in-Err-answer_script.exit c.in-Err-answer_script.ensures.cause) refl

pub returns-in-Ok-clause-complete : goal.returns-in-Ok-clause-complete
returns-in-Ok-clause-complete g c = λ told s left count none quiet source.
    let short : length c.deref.result.now ≤ longest_script = omega (arith, ap length c.deref.ensures.value, c.in-Ok.ensures.short) in
    inr (c.in-Err-answer_script.ensures.complete told s c.deref.result.now left (refl, short) (none_failed _ _ count _ _ none))

pub returns-in-Ok-clause-not_a_store : goal.returns-in-Ok-clause-not_a_store
returns-in-Ok-clause-not_a_store g c = λ told file at is. c.in-Err-answer_script.ensures.not_a_store told file at (ap Err is)

pub returns-in-Ok-clause-stopped : goal.returns-in-Ok-clause-stopped
returns-in-Ok-clause-stopped g c = λ told file at stops. exit_told c.in-Err-answer_script.exit file at (c.in-Err-answer_script.ensures.stopped told file at stops)
