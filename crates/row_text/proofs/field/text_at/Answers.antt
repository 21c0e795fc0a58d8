-- Where no byte of a text and no `"` stands, no text ends.
use Rattle.row_text.proofs.Spellings.{no_text}
use Rattle.row_text.proofs.field.text_at.Goals as goal

pub returns-clause-none : goal.returns-clause-none
returns-clause-none c text rest h =
    no_text c.loop-byte.text.items c.loop-byte.rest.now c.args.bytes.now c.loop-byte.invariant c.in_default.ensures.none c.in-None.ensures.none text rest h
