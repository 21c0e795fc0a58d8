use Rattle.folder_session.proofs.OutcomeLemmas.{same_outcome}
use Rattle.folder_session.proofs.laws.one_outcome.Goals as goal

pub returns : goal.returns
returns c = same_outcome c.one_normal_form.ensures c.one_plan.ensures.texts c.one_collection.ensures.one
