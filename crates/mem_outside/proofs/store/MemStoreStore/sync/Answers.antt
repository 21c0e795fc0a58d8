use Rattle.std.proofs.Common.{List, length, subst, arith}
use Rattle.mem_outside.specs.Shown.{Shown}
use Rattle.mem_outside.specs.Outcomes.{Outcome, state_in}
use Rattle.mem_outside.specs.Sound.{synced_only, absent_only, state_sound}
use Rattle.mem_outside.specs.History.{current_of, past_of}
use Rattle.mem_outside.proofs.Calls.{state_now}
use Rattle.mem_outside.proofs.store.MemStoreStore.sync.Goals as goal

pub returns-in-Ok-clause-stable : goal.returns-in-Ok-clause-stable
returns-in-Ok-clause-stable c = λ x now.
    let files : List Shown = current_of c.sync.new.history in
    let here : Outcome (state_in files c.args.file) x =
    subst (λ (l : List Shown). Outcome (state_in l c.args.file) x) (state_now (past_of c.sync.new.history) files (length (past_of c.sync.new.history)) (omega arith)) now in
    synced_only (state_in (current_of c.args.self.now.history) c.args.file) x (subst (λ (s : Shown). Outcome s x) c.in-Ok.ensures.state here)

pub returns-in-Ok-clause-removals : goal.returns-in-Ok-clause-removals
returns-in-Ok-clause-removals c = λ g gone x now.
    let files : List Shown = current_of c.sync.new.history in
    let here : Outcome (state_in files g) x =
    subst (λ (l : List Shown). Outcome (state_in l g) x) (state_now (past_of c.sync.new.history) files (length (past_of c.sync.new.history)) (omega arith)) now in
    absent_only (state_in files g) (state_sound files g c.sync.ensures.sound) gone (c.in-Ok.ensures.all_gone g) x here
