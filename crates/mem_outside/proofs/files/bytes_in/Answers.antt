use Rattle.std.proofs.Common.{None, Some, length, sym, ap, ◌∙◌}
use Rattle.mem_outside.specs.Shown.{Shown}
use Rattle.mem_outside.proofs.Histories.{found_in}
use Rattle.mem_outside.proofs.files.bytes_in.Goals as goal

pub returns-in-Some : goal.returns-in-Some
returns-in-Some c =
    let history = c.args.history.now in
    c.bytes.ensures
    ∙ ap (λ (s : Shown). s.bytes) (sym (found_in (length history.undo.items) history.synced history.versions.entries c.args.file (Some c.in-Some.version.now) c.requires c.in-Some.ensures.value))

pub returns-in-None : goal.returns-in-None
returns-in-None c =
    let history = c.args.history.now in
    ap (λ (s : Shown). s.bytes) (sym (found_in (length history.undo.items) history.synced history.versions.entries c.args.file None c.requires c.in-None.ensures.value))
