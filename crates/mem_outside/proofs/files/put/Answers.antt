use Rattle.std.proofs.Common.{List, IsTrue, length, true, sym, ap, ◌∙◌, subst, arith}
use Rattle.outside_traits.specs.Calls.{Passes}
use Rattle.mem_outside.specs.Shown.{Shown}
use Rattle.mem_outside.specs.Outcomes.{Outcome, state_in, stable_file, is_sound}
use Rattle.mem_outside.specs.Moments.{view_of}
use Rattle.mem_outside.specs.Sound.{synced_only}
use Rattle.mem_outside.proofs.Calls.{passes, state_now}
use Rattle.mem_outside.specs.History.{current_of, past_of}
use Rattle.mem_outside.proofs.Changes.{changed_state, changed_sound, others_stay}
use Rattle.mem_outside.proofs.Images.{stable_sound}
use Rattle.mem_outside.proofs.Numbers.{changed_differ}
use Rattle.mem_outside.proofs.files.put.Goals as goal

pub returns-clause-sound : goal.returns-clause-sound
returns-clause-sound c =
    changed_sound c.args.file true _ (current_of c.args.history.now) _ c.in_ok-change.ensures.current (ap (λ (s : Shown). s.number) c.in_ok-state.ensures)
    (subst (λ (s : Shown). IsTrue (is_sound s)) (sym c.in_ok-state.ensures) (stable_sound c.args.file c.args.bytes.now)) c.requires.sound

pub returns-clause-state : goal.returns-clause-state
returns-clause-state c =
    changed_state c.args.file true _ (current_of c.args.history.now) _ c.in_ok-change.ensures.current (ap (λ (s : Shown). s.number) c.in_ok-state.ensures) ∙ c.in_ok-state.ensures

pub returns-clause-others : goal.returns-clause-others
returns-clause-others c =
    others_stay c.args.file true _ (current_of c.args.history.now) _ c.in_ok-change.ensures.current (ap (λ (s : Shown). s.number) c.in_ok-state.ensures)

pub returns-clause-time : goal.returns-clause-time
returns-clause-time c =
    subst (λ (l : List (List Shown)). Passes (view_of (past_of c.args.history.now) (current_of c.args.history.now)) (view_of l (current_of c.change.new.history)))
    (sym c.in_ok-change.ensures.past) (passes (past_of c.args.history.now) (current_of c.args.history.now) (current_of c.change.new.history))

pub returns-clause-differ : goal.returns-clause-differ
returns-clause-differ c = changed_differ true _ (current_of c.args.history.now) _ c.in_ok-change.ensures.current

pub returns-clause-stable : goal.returns-clause-stable
returns-clause-stable c = λ x now.
    let files : List Shown = current_of c.change.new.history in
    let here : Outcome (state_in files c.args.file) x =
    subst (λ (l : List Shown). Outcome (state_in l c.args.file) x) (state_now (past_of c.change.new.history) files (length (past_of c.change.new.history)) (omega arith)) now in
    synced_only (stable_file c.args.file c.args.bytes.now) x (subst (λ (s : Shown). Outcome s x) (returns-clause-state c) here)
