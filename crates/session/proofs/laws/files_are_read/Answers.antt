use Rattle.session.proofs.CauseLemmas.{never_damaged, never_unreadable}
use Rattle.session.proofs.laws.files_are_read.Goals as goal

pub returns-clause-damaged : goal.returns-clause-damaged
returns-clause-damaged c = never_damaged

pub returns-clause-unreadable : goal.returns-clause-unreadable
returns-clause-unreadable c = never_unreadable
