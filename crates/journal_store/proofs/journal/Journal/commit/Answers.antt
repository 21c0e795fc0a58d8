use Rattle.std.proofs.Common.{refl}
use Rattle.journal_store.proofs.Committing.{log_stands, committing, committed}
use Rattle.journal_store.proofs.journal.Journal.commit.Goals as goal

pub returns-in_err-log-clause-images : goal.returns-in_err-log-clause-images
returns-in_err-log-clause-images g c = λ told h bodies keeps.
    committing _ c.args.self h bodies keeps _ c.args.body.now (c.commit.ensures.crash told bodies (log_stands _ c.args.self h bodies keeps))

pub returns-clause-images : goal.returns-clause-images
returns-clause-images g c = λ told h bodies keeps.
    committing _ c.args.self h bodies keeps _ c.args.body.now (c.commit.ensures.crash told bodies (log_stands _ c.args.self h bodies keeps))

pub returns-clause-committed : goal.returns-clause-committed
returns-clause-committed g c = λ told h bodies keeps.
    committed _ c.args.self h bodies keeps _ _ c.args.body.now refl c.commit.ensures.alone c.in_ok-log.ensures.file
    (c.in_ok-log.ensures.committed told bodies (log_stands _ c.args.self h bodies keeps))
