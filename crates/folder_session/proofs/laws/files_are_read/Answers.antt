use Rattle.folder_session.proofs.RefusalLemmas.{never_damaged, never_lost, never_unreadable}
use Rattle.folder_session.proofs.laws.files_are_read.Goals as goal

pub returns-clause-damaged : goal.returns-clause-damaged
returns-clause-damaged c = never_damaged

pub returns-clause-unreadable : goal.returns-clause-unreadable
returns-clause-unreadable c = never_unreadable

pub returns-clause-none_lost : goal.returns-clause-none_lost
returns-clause-none_lost c = λ s new program plan form cuts given works. never_lost s works.lost works.shown
