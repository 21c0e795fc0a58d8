use Rattle.std.proofs.Common.{[], ◌∷◌, List, ℕ, length, slice_index_or, refl, sym, ◌∙◌, subst}
use Rattle.mem_outside.specs.Shown.{Shown}
use Rattle.mem_outside.specs.Outcomes.{Outcome, state_in}
use Rattle.mem_outside.specs.History.{current_of, past_of}
use Rattle.cases_store.proofs.Commits.{left_of_run, outcome_of_committed, bodies_left, is_log_left, same_error}
use Rattle.cases_store.proofs.crashes.log_after_a_crash.Goals as goal

pub returns-in-Ok-read-clause-bodies : goal.returns-in-Ok-read-clause-bodies
returns-in-Ok-read-clause-bodies c =
    bodies_left c.one_reading.ensures.bodies _ _ _ (c.in-Ok-read.ensures.bodies refl)
    (left_of_run _ _ _ _ _ _ c.in-Ok.ensures.file (c.commit.ensures.crash refl [] (c.in-Ok.ensures.made refl)) c.in-Ok-image.ensures.image)

pub returns-in-Ok-read-clause-committed : goal.returns-in-Ok-read-clause-committed
returns-in-Ok-read-clause-committed c ok =
    c.one_reading.ensures.bodies _ _ _ (c.in-Ok-read.ensures.bodies refl)
    (outcome_of_committed c.commit.result _ _ c.args.file (c.args.body.now ∷ []) _ c.in-Ok.ensures.file (sym c.is_ok-committed.ensures.value ∙ ok)
    c.commit.ensures.file (c.commit.ensures.committed refl [] (c.in-Ok.ensures.made refl)) (c.in-Ok-image.ensures.image c.args.file))

pub returns-in-Err-read-clause-is_log : goal.returns-in-Err-read-clause-is_log
returns-in-Err-read-clause-is_log c at is =
    is_log_left c.one_reading.ensures.not_both c.args.body.now _ at
    (left_of_run _ _ _ _ _ _ c.in-Ok.ensures.file (c.commit.ensures.crash refl [] (c.in-Ok.ensures.made refl)) c.in-Ok-image.ensures.image)
    (c.in-Err-read.ensures.not_log refl at (same_error c.in-Err-read.refusal _ is))

pub returns-in-Ok-read-clause-image : goal.returns-in-Ok-read-clause-image
returns-in-Ok-read-clause-image c = λ file.
    let past = past_of c.commit.new.store.history in
    let current : List Shown = current_of c.commit.new.store.history in
    subst (λ (x : List ℕ). Outcome (state_in (slice_index_or past (length past) current) file) x)
    (sym (c.read.ensures.narrows.same file)) (c.in-Ok-image.ensures.image file)
