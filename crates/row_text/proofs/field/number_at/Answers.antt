-- What stands up to the first comma is no number.
use Rattle.std.proofs.Common.{◌∙◌, sym}
use Rattle.row_text.proofs.Spellings.{number_before_comma}
use Rattle.row_text.proofs.field.number_at.Goals as goal

pub returns-in-None-clause-none : goal.returns-in-None-clause-none
returns-in-None-clause-none c number rest fits ends h =
    number_before_comma _ _ c.up_to_comma.ensures.no_comma c.up_to_comma.ensures.ends c.in-None.ensures.none number rest fits ends (sym c.up_to_comma.ensures.whole ∙ h)
