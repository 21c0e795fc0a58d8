use Rattle.std.proofs.Common.{List, length, sym, ap, ◌∙◌, subst, arith}
use Rattle.mem_outside.specs.Shown.{Shown}
use Rattle.mem_outside.specs.Outcomes.{Outcome, state_in}
use Rattle.mem_outside.specs.History.{current_of, past_of}
use Rattle.mem_outside.proofs.Calls.{state_now}
use Rattle.mem_outside.proofs.Images.{left_found, left_outcome}
use Rattle.mem_outside.proofs.store.MemStore.image.Goals as goal

pub returns-clause-image : goal.returns-clause-image
returns-clause-image c = λ file.
    let files : List Shown = current_of c.args.self.now.history in
    subst (λ (l : List Shown). Outcome (state_in l file) (state_in (current_of c.in_ok-history.history) file).bytes)
    (sym (state_now (past_of c.args.self.now.history) files (length (past_of c.args.self.now.history)) (omega arith)))
    (left_outcome _ _ _ files (current_of c.in_ok-history.history) file c.args.self.now.sound c.in_ok-history.ensures.left)

pub returns-clause-files : goal.returns-clause-files
returns-clause-files c = λ g.
    let files : List Shown = current_of c.args.self.now.history in
    ap (λ (l : List Shown). (state_in l g).bytes) c.in_ok-history.ensures.left ∙ ap (λ (s : Shown). s.bytes) (left_found _ _ _ files g)
