use Rattle.plan_text.proofs.Texts.{exprs_read}
use Rattle.plan_text.proofs.reading_laws.expressions_are_read.Goals as goal

pub returns-clause-found : goal.returns-clause-found
returns-clause-found c most levels = (exprs_read levels).sound most

pub returns-clause-only : goal.returns-clause-only
returns-clause-only c most levels = (exprs_read levels).complete most
