use Rattle.plan_text.proofs.Texts.{plans_read}
use Rattle.plan_text.proofs.plan_laws.plans_are_read.Goals as goal

pub returns-clause-found : goal.returns-clause-found
returns-clause-found c most levels = (plans_read levels).sound most

pub returns-clause-only : goal.returns-clause-only
returns-clause-only c most levels = (plans_read levels).complete most
