use Rattle.std.proofs.Common.{refl, sym, ap, ◌∙◌, inl, inr, ◌∷◌}
use Rattle.std.proofs.lemmas.Result.{err_from_is_err_and}
use Rattle.executor.proofs.NextParts.{some_first}
use Rattle.work_run.specs.Opened.{files_left}
use Rattle.job_turns.proofs.Losses.{next-extent, next-is}
use Rattle.job_turns.proofs.job.JobWork.note_next.Goals as goal

pub returns-in_default-clause-why : goal.returns-in_default-clause-why
returns-in_default-clause-why c = inr (refl, inl (sym c.given_of.ensures ∙ c.in_default.is))

pub returns-in_default-next_result-clause-why : goal.returns-in_default-next_result-clause-why
returns-in_default-next_result-clause-why c =
    let some = some_first (files_left c.args.self.now.work) c.requires.left in
    let extent = next-extent some.0 (sym c.in_default-next_result.is ∙ c.next_result.ensures some.0 some.1 some.2) in
    inr (refl, inr (extent.0, extent.1, some.1, some.2 ∙ ap (λ name. name ∷ some.1) extent.2))

pub returns-in_err-note-clause-why : goal.returns-in_err-note-clause-why
returns-in_err-note-clause-why c =
    let p = err_from_is_err_and c.from_residual.result c.from_residual.ensures.1 in
    rw (p.1, p.2) (inl (refl, c.in-Some.given, sym c.given_of.ensures ∙ c.in-Some.is))

pub returns-clause-notes : goal.returns-clause-notes
returns-clause-notes c =
    let some = some_first (files_left c.args.self.now.work) c.requires.left in
    let same = next-is some.0 c.in-Some-next_result.id (sym c.in-Some-next_result.is ∙ c.next_result.ensures some.0 some.1 some.2) in (
      c.in-Some.given,
      sym c.given_of.ensures ∙ c.in-Some.is,
      λ plan is. record { others = some.1; next = some.2 ∙ ap (λ name. name ∷ some.1) same; notes = c.in_ok-note.ensures.notes plan is },
    )
