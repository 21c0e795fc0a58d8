use Rattle.std.proofs.Common.{◌≡◌, None, Some, IfOk, length, sym, subst}
use Rattle.mem_outside.specs.Shown.{Shown}
use Rattle.mem_outside.proofs.Histories.{found_in}
use Rattle.mem_outside.proofs.files.state_in.Goals as goal

pub returns-in-Some : goal.returns-in-Some
returns-in-Some c =
    let history = c.args.history.now in
    subst (λ (s : Shown). IfOk c.state_of.result (λ state. state ≡ s))
    (sym (found_in (length history.undo.items) history.synced history.versions.entries c.args.file (Some c.in-Some.version.now) c.requires c.in-Some.ensures.value)) c.state_of.ensures

pub returns-in-None : goal.returns-in-None
returns-in-None c =
    let history = c.args.history.now in
    subst (λ (s : Shown). IfOk c.absent.result (λ state. state ≡ s))
    (sym (found_in (length history.undo.items) history.synced history.versions.entries c.args.file None c.requires c.in-None.ensures.value)) c.absent.ensures
