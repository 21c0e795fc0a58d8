use Rattle.plan_text.proofs.Whole.{one_spelled}
use Rattle.plan_text.proofs.Texts.{exprs_read}
use Rattle.plan_text.proofs.reading_laws.one_expression.Goals as goal

pub returns : goal.returns
returns c levels = one_spelled (exprs_read levels)
