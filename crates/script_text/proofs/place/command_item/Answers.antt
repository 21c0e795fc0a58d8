use Rattle.std.proofs.Common.{sym, ap, ◌∙◌, rules}
use Rattle.script_text.specs.Dispatch.{command_of}
use Rattle.script_text.proofs.LineLemmas.{IsWhole-from_short}
use Rattle.script_text.proofs.BlockLemmas.{Given-read}
use Rattle.script_text.proofs.place.command_item.Goals as goal

pub returns-in-Ok-clause-given : goal.returns-in-Ok-clause-given
returns-in-Ok-clause-given c = λ bytes held.
    let whole = IsWhole-from_short _ _ bytes c.args.line.now.len (search rules) held in
    Given-read bytes _ _ whole.fits (ap command_of (whole.text_is ∙ sym c.deref.ensures.value)) c.in-Ok.ensures.read

pub returns-in-Err-clause-given : goal.returns-in-Err-clause-given
returns-in-Err-clause-given c = λ bytes held.
    let whole = IsWhole-from_short _ _ bytes c.args.line.now.len (search rules) held in
    Given-read bytes _ _ whole.fits (ap command_of (whole.text_is ∙ sym c.deref.ensures.value)) c.in-Err.ensures.read
