use Rattle.std.proofs.Common.{◌∙◌}
use Rattle.std.proofs.lemmas.List.{append-nil}
use Rattle.job_turns.proofs.job.JobWork.last_turn.Goals as goal

pub returns-clause-used : goal.returns-clause-used
returns-clause-used c = c.in_ok-used.ensures ∙ append-nil _ ∙ c.deref.ensures.value

pub returns-clause-lost : goal.returns-clause-lost
returns-clause-lost c = c.in_ok-lost.ensures ∙ append-nil _ ∙ c.deref-2.ensures.value
