use Rattle.journal_store.proofs.OneReading.{have_once, stop_once, have_or_stop}
use Rattle.journal_store.proofs.root.one_journal.Goals as goal

pub returns-clause-bodies : goal.returns-clause-bodies
returns-clause-bodies c = have_once

pub returns-clause-place : goal.returns-clause-place
returns-clause-place c = stop_once

pub returns-clause-not_both : goal.returns-clause-not_both
returns-clause-not_both c = have_or_stop
