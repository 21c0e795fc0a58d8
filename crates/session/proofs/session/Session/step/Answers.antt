use Rattle.std.proofs.Common.{IfOk, ap, sym, subst}
use Rattle.script_text.specs.declared.item.Command.{Command}
use Rattle.folder.specs.Folders.{table_in, FolderStands}
use Rattle.folder_session.specs.Standing as folder
use Rattle.folder_session.specs.declared.session.FolderSession.{FolderSession}
use Rattle.folder_session.proofs.DroppedLemmas.{gone_from_none}
use Rattle.session.specs.Standing.{Performs, folder_of, jobs_of}
use Rattle.session.specs.Taken.{TakesAsTold}
use Rattle.session.proofs.HoldLemmas.{leaves_none}
use Rattle.session.proofs.session.Session.step.Goals as goal

pub returns-in-Step-clause-taken : goal.returns-in-Step-clause-taken
returns-in-Step-clause-taken g c = λ told care m stands.
    subst (λ (x : Command). TakesAsTold (table_in (folder_of c.args.self)) (jobs_of c.args.self) x c.read_next.result.1 (g.D.Store.counts c.args.store.now) (g.D.Store.counts c.read_next.new.store)) (sym c.in-Step.is)
    (c.read_next.ensures.taken told care m stands)

pub returns-in-Step-clause-crash : goal.returns-in-Step-clause-crash
returns-in-Step-clause-crash g c = λ told stands.
    subst (λ (b : FolderSession). FolderStands (g.D.Store.view c.read_next.new.store) (folder.folder_of b)) (sym c.read_next.ensures.base)
    (c.left_stores.ensures.stands c.args.store.now c.read_next.new.store _ _ c.read_next.ensures.narrows stands)

pub returns-in-Close-clause-ok : goal.returns-in-Close-clause-ok
returns-in-Close-clause-ok g c = λ told care m stands.
    subst (λ (x : Command). IfOk c.close.result (λ next. Performs care (g.D.Store.view c.args.store.now) (g.D.Store.view c.close.new.store) next.0 m x next.1)) (sym c.in-Close.is) (c.close.ensures.ok told care m stands)

pub returns-in-Close-clause-taken : goal.returns-in-Close-clause-taken
returns-in-Close-clause-taken g c = λ told care m stands.
    subst (λ (x : Command). IfOk c.close.result (λ next. TakesAsTold (table_in (folder_of c.args.self)) (jobs_of c.args.self) x next.1 (g.D.Store.counts c.args.store.now) (g.D.Store.counts c.close.new.store))) (sym c.in-Close.is)
    (c.close.ensures.taken told care m stands)

pub returns-in-Close-clause-alone : goal.returns-in-Close-clause-alone
returns-in-Close-clause-alone g c = subst (λ (x : Command). folder.ChangesAtMost (folder_of c.args.self) x (g.D.Store.view c.args.store.now) (g.D.Store.view c.close.new.store)) (sym c.in-Close.is) c.close.ensures.alone

pub returns-in-OpenJob-clause-refused : goal.returns-in-OpenJob-clause-refused
returns-in-OpenJob-clause-refused g c = leaves_none c.open_job.result.1 (g.D.Store.view c.args.store.now)

pub returns-in-OpenJob-clause-gone : goal.returns-in-OpenJob-clause-gone
returns-in-OpenJob-clause-gone g c = λ told.
    gone_from_none (table_in (folder_of c.args.self)) (table_in (folder_of c.open_job.result.0)) (ap (λ (b : FolderSession). table_in (folder.folder_of b)) c.open_job.ensures.base) (g.D.Store.view c.args.store.now) (g.D.Store.counts c.args.store.now) (g.D.Store.counts c.args.store.now)

pub returns-in-DropJob-clause-gone : goal.returns-in-DropJob-clause-gone
returns-in-DropJob-clause-gone g c = λ told.
    gone_from_none (table_in (folder_of c.args.self)) (table_in (folder_of c.drop_job.result.0)) (ap (λ (b : FolderSession). table_in (folder.folder_of b)) c.drop_job.ensures.base) (g.D.Store.view c.args.store.now) (g.D.Store.counts c.args.store.now) (g.D.Store.counts c.args.store.now)

pub returns-in-Step-clause-gone : goal.returns-in-Step-clause-gone
returns-in-Step-clause-gone g c = λ told.
    gone_from_none (table_in (folder_of c.args.self)) (table_in (folder_of c.read_next.result.0)) (ap (λ (b : FolderSession). table_in (folder.folder_of b)) c.read_next.ensures.base) (g.D.Store.view c.read_next.new.store) (g.D.Store.counts c.args.store.now) (g.D.Store.counts c.read_next.new.store)
