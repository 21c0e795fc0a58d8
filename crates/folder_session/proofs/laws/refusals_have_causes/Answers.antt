use Rattle.folder_session.proofs.OutcomeLemmas.{cause_of, refused_exactly, state_kept}
use Rattle.folder_session.proofs.laws.refusals_have_causes.Goals as goal

pub returns-clause-cause : goal.returns-clause-cause
returns-clause-cause c = cause_of

pub returns-clause-exactly : goal.returns-clause-exactly
returns-clause-exactly c = refused_exactly c.one_normal_form.ensures c.one_plan.ensures.texts

pub returns-clause-unchanged : goal.returns-clause-unchanged
returns-clause-unchanged c = state_kept
