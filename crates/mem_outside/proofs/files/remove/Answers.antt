use Rattle.std.proofs.Common.{◌≡◌, inr, List, ℕ, true, refl, sym, ap, ◌∙◌, subst, IsTrue}
use Rattle.outside_traits.specs.Calls.{Gone}
use Rattle.mem_outside.specs.Shown.{Shown}
use Rattle.mem_outside.specs.Outcomes.{Outcome, state_in, removed, is_sound}
use Rattle.mem_outside.specs.Sound.{number_of, removed_sound, removed_outcome}
use Rattle.mem_outside.specs.History.{current_of, past_of}
use Rattle.mem_outside.proofs.Changes.{changed_state, changed_sound, changed_acts, others_stay, here_sound}
use Rattle.mem_outside.proofs.Numbers.{changed_differ}
use Rattle.mem_outside.proofs.files.remove.Goals as goal

pub returns-clause-sound : goal.returns-clause-sound
returns-clause-sound c =
    let old : Shown = state_in (current_of c.args.history.now) c.args.file in
    let from : c.in_ok-state.state ≡ old = c.in_ok-state.ensures in
    let next_is = c.in_ok-next.ensures ∙ ap (λ (s : Shown). removed s) from in
    changed_sound c.args.file true _ (current_of c.args.history.now) _ c.in_ok-change.ensures.current
    (ap (λ (s : Shown). s.number) next_is ∙ number_of c.args.file (current_of c.args.history.now))
    (subst (λ (s : Shown). IsTrue (is_sound s)) (sym next_is) (removed_sound old (here_sound c.args.file (current_of c.args.history.now) c.requires.sound)))
    c.requires.sound

pub returns-clause-state : goal.returns-clause-state
returns-clause-state c =
    let old : Shown = state_in (current_of c.args.history.now) c.args.file in
    let from : c.in_ok-state.state ≡ old = c.in_ok-state.ensures in
    let next_is = c.in_ok-next.ensures ∙ ap (λ (s : Shown). removed s) from in
    changed_state c.args.file true _ (current_of c.args.history.now) _ c.in_ok-change.ensures.current
    (ap (λ (s : Shown). s.number) next_is ∙ number_of c.args.file (current_of c.args.history.now)) ∙ next_is

pub returns-clause-acts : goal.returns-clause-acts
returns-clause-acts c =
    let old : Shown = state_in (current_of c.args.history.now) c.args.file in
    let from : c.in_ok-state.state ≡ old = c.in_ok-state.ensures in
    let next_is = c.in_ok-next.ensures ∙ ap (λ (s : Shown). removed s) from in
    let step : List ℕ → List ℕ → Type 0 = Gone in
    changed_acts c.args.file true _ (current_of c.args.history.now) _ c.in_ok-change.ensures.current
    (ap (λ (s : Shown). s.number) next_is ∙ number_of c.args.file (current_of c.args.history.now))
    step (past_of c.args.history.now) _ c.in_ok-change.ensures.past
    (subst (λ (s : Shown). step old.bytes s.bytes) (sym next_is) (inr refl))
    (λ x now. removed_outcome old (here_sound c.args.file (current_of c.args.history.now) c.requires.sound) x (subst (λ (s : Shown). Outcome s x) next_is now))

pub returns-clause-others : goal.returns-clause-others
returns-clause-others c =
    let from = c.in_ok-state.ensures in
    let next_is = c.in_ok-next.ensures ∙ ap (λ (s : Shown). removed s) from in
    others_stay c.args.file true _ (current_of c.args.history.now) _ c.in_ok-change.ensures.current
    (ap (λ (s : Shown). s.number) next_is ∙ number_of c.args.file (current_of c.args.history.now))

pub returns-clause-differ : goal.returns-clause-differ
returns-clause-differ c = changed_differ true _ (current_of c.args.history.now) _ c.in_ok-change.ensures.current
