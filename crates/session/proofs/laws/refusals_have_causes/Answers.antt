use Rattle.session.proofs.CauseLemmas.{cause_of, unchanged}
use Rattle.session.proofs.laws.refusals_have_causes.Goals as goal

pub returns-clause-cause : goal.returns-clause-cause
returns-clause-cause c = λ care m new given_to why is. cause_of m new why care given_to is

pub returns-clause-unchanged : goal.returns-clause-unchanged
returns-clause-unchanged c = unchanged
