-- What stands up to the first comma is no truth value.
use Rattle.std.proofs.Common.{◌∙◌, sym}
use Rattle.row_text.proofs.Spellings.{truth_before_comma}
use Rattle.row_text.proofs.field.truth_at.Goals as goal

pub returns-in-None-clause-none : goal.returns-in-None-clause-none
returns-in-None-clause-none c truth rest ends h =
    truth_before_comma _ _ c.up_to_comma.ensures.no_comma c.up_to_comma.ensures.ends c.in-None.ensures.none truth rest ends (sym c.up_to_comma.ensures.whole ∙ h)
