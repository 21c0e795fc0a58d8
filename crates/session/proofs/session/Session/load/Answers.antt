use Rattle.std.proofs.Common.{sym, subst, []}
use Rattle.folder_session.specs.declared.session.FolderSession.{FolderSession}
use Rattle.session.specs.Jobs.{AreJobs}
use Rattle.session.specs.declared.session.Session.{Session}
use Rattle.session.proofs.LoadLemmas.{same_err, same_only, not_refused}
use Rattle.folder.specs.declared.refusal.LoadRefusal.TheVariants.{NotAStore}
use Rattle.session.proofs.session.Session.load.Goals as goal

pub returns-in-Ok-clause-stands : goal.returns-in-Ok-clause-stands
returns-in-Ok-clause-stands g c = λ told care a b left. record { base = c.in-Ok.ensures.stands told care a b left; jobs = subst (AreJobs a []) (sym c.new.ensures) tt }

pub returns-in-Ok-clause-only : goal.returns-in-Ok-clause-only
returns-in-Ok-clause-only g c = λ told file at stops. absurd (not_refused c.in-Ok.base file at (c.in-Ok.ensures.only told file at stops))

pub returns-in-Err-clause-not_a_store : goal.returns-in-Err-clause-not_a_store
returns-in-Err-clause-not_a_store g c = λ told file at is. c.in-Err.ensures.not_a_store told file at (same_err {T = Session} {U = FolderSession} c.in-Err.refusal (NotAStore file at) is)

pub returns-in-Err-clause-only : goal.returns-in-Err-clause-only
returns-in-Err-clause-only g c = λ told file at stops. same_only {T = FolderSession} {U = Session} c.in-Err.refusal file at (c.in-Err.ensures.only told file at stops)

pub returns-in-Ok-clause-users : goal.returns-in-Ok-clause-users
returns-in-Ok-clause-users g c = c.load.ensures.users

pub returns-in-Err-clause-users : goal.returns-in-Err-clause-users
returns-in-Err-clause-users g c = c.load.ensures.users
