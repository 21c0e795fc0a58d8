use Rattle.plan_text.proofs.Texts.{one_plan_of_text, plans_read}
use Rattle.plan_text.proofs.Whole.{one_spelled}
use Rattle.plan_text.proofs.plan_laws.one_plan.Goals as goal

pub returns-clause-tokens : goal.returns-clause-tokens
returns-clause-tokens c levels = one_spelled (plans_read levels)

pub returns-clause-texts : goal.returns-clause-texts
returns-clause-texts c = one_plan_of_text
