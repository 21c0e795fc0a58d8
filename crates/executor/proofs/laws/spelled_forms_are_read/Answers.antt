use Rattle.std.proofs.Common.{◌∙◌, refl, sym}
use Rattle.executor.proofs.laws.spelled_forms_are_read.Goals as goal

pub returns : goal.returns
returns c = λ shape at file form spells read may. c.one_spelling.ensures shape read form may.of_shape spells.0 (sym (may.spelled refl) ∙ spells.1)
