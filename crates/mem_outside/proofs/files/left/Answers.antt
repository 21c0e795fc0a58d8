use Rattle.std.proofs.Common.{◌≡◌, ◌++◌, [], List, IsTrue, ℕ, length, map, sym, ap, ◌∙◌, subst, append-nil, rules}
use Rattle.std.specs.List.{list_all}
use Rattle.mem_outside.specs.declared.history.Version.{Version}
use Rattle.mem_outside.specs.declared.history.Undo.{Undo}
use Rattle.mem_outside.specs.Shown.{Shown}
use Rattle.mem_outside.specs.Outcomes.{is_sound, numbers_differ, left_of}
use Rattle.mem_outside.specs.History.{shown_at, current_of, is_kept}
use Rattle.mem_outside.proofs.Histories.{left_entry, left_more, left_kept, left_shown}
use Rattle.mem_outside.proofs.Images.{all_left_sound}
use Rattle.mem_outside.proofs.Numbers.{left_differ}
use Rattle.mem_outside.proofs.files.left.Goals as goal

pub loop-number-preserved : goal.loop-number-preserved
loop-number-preserved c =
    let history = c.args.history.now in
    let one : c.in_ok-left.left ≡ left_of c.args.greatest c.args.filler c.args.removed_too (shown_at history.synced c.in-Some.version.now) =
    c.in_ok-left.ensures ∙ ap (left_of c.args.greatest c.args.filler c.args.removed_too) c.in_ok-state.ensures in
    ap (λ (l : List (ℕ × Version)). l ++ map (left_entry c.args.greatest c.args.filler c.args.removed_too history.synced) c.next.new.self) c.in_ok-insert.ensures.entries
    ∙ left_more c.args.greatest c.args.filler c.args.removed_too history.synced history.versions.entries c.loop-number.number-iterator c.next.new.self c.loop-number.versions.entries
    (c.in-Some.number.now, c.in-Some.version.now) (c.in-Some.number.now, record { state = c.in_ok-left.left; made = 0 }) c.iter-number-items.ensures.unique
    c.loop-number.invariant c.in-Some.ensures.steps (λ i. (c.in-Some.number.now, record { state = one i; made = 0 }))

pub returns-clause-history : goal.returns-clause-history
returns-clause-history c =
    let history = c.args.history.now in
    let entry = left_entry c.args.greatest c.args.filler c.args.removed_too history.synced in
    let all : c.loop-number.versions.entries ≡ map entry history.versions.entries =
    sym (append-nil c.loop-number.versions.entries) ∙ ap (λ (l : List (ℕ × Version)). c.loop-number.versions.entries ++ map entry l) (sym c.in-None.ensures.steps.0) ∙ c.loop-number.invariant in
    let none : c.new.result.items ≡ [] = search rules in
    subst (λ (l : List Undo). IsTrue (is_kept (length l) (record { versions = c.loop-number.versions.entries; synced = 0 }))) (sym none)
    (left_kept c.args.greatest c.args.filler c.args.removed_too history.synced (length history.undo.items) history.versions.entries c.loop-number.versions.entries c.requires.history all)

pub returns-clause-left : goal.returns-clause-left
returns-clause-left c =
    let history = c.args.history.now in
    let entry = left_entry c.args.greatest c.args.filler c.args.removed_too history.synced in
    let all : c.loop-number.versions.entries ≡ map entry history.versions.entries =
    sym (append-nil c.loop-number.versions.entries) ∙ ap (λ (l : List (ℕ × Version)). c.loop-number.versions.entries ++ map entry l) (sym c.in-None.ensures.steps.0) ∙ c.loop-number.invariant in
    ap (λ (l : List (ℕ × Version)). map (shown_at 0) (map (λ e. e.1) l)) all ∙ left_shown c.args.greatest c.args.filler c.args.removed_too history.synced history.versions.entries

pub returns-clause-sound : goal.returns-clause-sound
returns-clause-sound c =
    subst (λ (l : List Shown). IsTrue (list_all is_sound l)) (sym (returns-clause-left c))
    (all_left_sound c.args.greatest c.args.filler c.args.removed_too (current_of c.args.history.now) c.requires.sound)

pub returns-clause-differ : goal.returns-clause-differ
returns-clause-differ c = λ differ.
    subst (λ (l : List Shown). IsTrue (numbers_differ l)) (sym (returns-clause-left c))
    (subst IsTrue (sym (left_differ c.args.greatest c.args.filler c.args.removed_too (current_of c.args.history.now))) differ)
