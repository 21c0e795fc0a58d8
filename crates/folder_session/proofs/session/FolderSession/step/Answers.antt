use Rattle.std.proofs.Common.{sym, subst, ap, refl, IfOk}
use Rattle.script_text.specs.declared.item.Command.{Command}
use Rattle.script_text.specs.declared.item.Command.TheVariants as command
use Rattle.folder.specs.Folders.{table_in, FolderStands}
use Rattle.folder_session.specs.declared.session.FolderSession.{FolderSession}
use Rattle.folder_session.specs.Machine.{told_catalog, told_entries}
use Rattle.folder_session.specs.Standing.{Performs, ChangesAtMost, folder_of}
use Rattle.folder_session.proofs.CollectLemmas.{tells_list, list_leaves, list_narrow, list_tells}
use Rattle.folder_session.proofs.DroppedLemmas.{gone_from_none, none_gone}
use Rattle.folder_session.proofs.LeavingLemmas.{changes_none}
use Rattle.folder_session.proofs.LaterLemmas.{same_later}
use Rattle.folder_session.proofs.session.FolderSession.step.Goals as goal

pub returns-in-Stream-clause-ok : goal.returns-in-Stream-clause-ok
returns-in-Stream-clause-ok g c = λ told care s stands.
    subst (λ (x : Command). IfOk c.make.result (λ next. Performs care (g.D.Store.view c.args.store.now) (g.D.Store.view c.make.new.store) c.args.held.now next.0 s x next.1)) (sym c.in-Stream.is) (c.make.ensures.ok told care c.args.held.now s stands)

pub returns-in-Append-clause-ok : goal.returns-in-Append-clause-ok
returns-in-Append-clause-ok g c = λ told care s stands.
    subst (λ (x : Command). IfOk c.append.result (λ next. Performs care (g.D.Store.view c.args.store.now) (g.D.Store.view c.append.new.store) c.args.held.now next.0 s x next.1)) (sym c.in-Append.is) (c.append.ensures.ok told care c.args.held.now s stands)

pub returns-in-Stream-clause-alone : goal.returns-in-Stream-clause-alone
returns-in-Stream-clause-alone g c = subst (λ (x : Command). ChangesAtMost (folder_of c.args.self) x (g.D.Store.view c.args.store.now) (g.D.Store.view c.make.new.store)) (sym c.in-Stream.is) c.make.ensures.alone

pub returns-in-Stream-clause-gone : goal.returns-in-Stream-clause-gone
returns-in-Stream-clause-gone g c = λ told. none_gone (table_in (folder_of c.args.self)) (g.D.Store.view c.make.new.store) (g.D.Store.counts c.args.store.now) (g.D.Store.counts c.make.new.store) c.make.result c.make.ensures.later

pub returns-in-Append-clause-alone : goal.returns-in-Append-clause-alone
returns-in-Append-clause-alone g c = subst (λ (x : Command). ChangesAtMost (folder_of c.args.self) x (g.D.Store.view c.args.store.now) (g.D.Store.view c.append.new.store)) (sym c.in-Append.is) c.append.ensures.alone

pub returns-in-Append-clause-gone : goal.returns-in-Append-clause-gone
returns-in-Append-clause-gone g c = λ told. none_gone (table_in (folder_of c.args.self)) (g.D.Store.view c.append.new.store) (g.D.Store.counts c.args.store.now) (g.D.Store.counts c.append.new.store) c.append.result c.append.ensures.later

-- ---- a collection

pub returns-in-Collect-clause-ok : goal.returns-in-Collect-clause-ok
returns-in-Collect-clause-ok g c = λ told care s stands.
    subst (λ (x : Command). IfOk c.collect.result (λ next. Performs care (g.D.Store.view c.args.store.now) (g.D.Store.view c.collect.new.store) c.args.held.now next.0 s x next.1)) (sym c.in-Collect.is) (c.collect.ensures.ok told care s stands)

pub returns-in-Collect-clause-alone : goal.returns-in-Collect-clause-alone
returns-in-Collect-clause-alone g c = subst (λ (x : Command). ChangesAtMost (folder_of c.args.self) x (g.D.Store.view c.args.store.now) (g.D.Store.view c.collect.new.store)) (sym c.in-Collect.is) c.collect.ensures.alone

-- ---- what is kept is told

pub returns-in-Entries-clause-ok : goal.returns-in-Entries-clause-ok
returns-in-Entries-clause-ok g c = λ told care s stands.
    subst (λ (x : Command). Performs care (g.D.Store.view c.args.store.now) (g.D.Store.view c.args.store.now) c.args.held.now c.tell_entries.result.0 s x c.tell_entries.result.1) (sym c.in-Entries.is)
    (tells_list care _ c.args.self c.tell_entries.result.0 s stands c.tell_entries.ensures.session c.args.held.now command.Entries told_entries refl c.tell_entries.result.1 c.tell_entries.ensures.told)

pub returns-in-Entries-clause-narrow : goal.returns-in-Entries-clause-narrow
returns-in-Entries-clause-narrow g c = list_narrow told_entries (table_in (folder_of c.args.self)) _ c.tell_entries.ensures.told tt

pub returns-in-Entries-clause-refused : goal.returns-in-Entries-clause-refused
returns-in-Entries-clause-refused g c = list_leaves told_entries (table_in (folder_of c.args.self)) _ c.tell_entries.ensures.told _ tt

pub returns-in-Entries-clause-alone : goal.returns-in-Entries-clause-alone
returns-in-Entries-clause-alone g c = changes_none (folder_of c.args.self) c.args.command _

pub returns-in-Entries-clause-gone : goal.returns-in-Entries-clause-gone
returns-in-Entries-clause-gone g c = λ told.
    gone_from_none (table_in (folder_of c.args.self)) (table_in (folder_of c.tell_entries.result.0)) (ap (λ (x : FolderSession). table_in (folder_of x)) c.tell_entries.ensures.session) (g.D.Store.view c.args.store.now) (g.D.Store.counts c.args.store.now) (g.D.Store.counts c.args.store.now)

pub returns-in-Entries-clause-crash : goal.returns-in-Entries-clause-crash
returns-in-Entries-clause-crash g c = λ told stands. subst (λ (x : FolderSession). FolderStands (g.D.Store.view c.args.store.now) (folder_of x)) (sym c.tell_entries.ensures.session) stands

pub returns-in-Entries-clause-of_no_file : goal.returns-in-Entries-clause-of_no_file
returns-in-Entries-clause-of_no_file g c = list_tells told_entries (table_in (folder_of c.args.self)) _ c.tell_entries.ensures.told tt

-- ---- the catalogue is told

pub returns-in-Catalog-clause-ok : goal.returns-in-Catalog-clause-ok
returns-in-Catalog-clause-ok g c = λ told care s stands.
    subst (λ (x : Command). Performs care (g.D.Store.view c.args.store.now) (g.D.Store.view c.args.store.now) c.args.held.now c.tell_catalog.result.0 s x c.tell_catalog.result.1) (sym c.in-Catalog.is)
    (tells_list care _ c.args.self c.tell_catalog.result.0 s stands c.tell_catalog.ensures.session c.args.held.now command.Catalog told_catalog refl c.tell_catalog.result.1 c.tell_catalog.ensures.told)

pub returns-in-Catalog-clause-narrow : goal.returns-in-Catalog-clause-narrow
returns-in-Catalog-clause-narrow g c = list_narrow told_catalog (table_in (folder_of c.args.self)) _ c.tell_catalog.ensures.told tt

pub returns-in-Catalog-clause-refused : goal.returns-in-Catalog-clause-refused
returns-in-Catalog-clause-refused g c = list_leaves told_catalog (table_in (folder_of c.args.self)) _ c.tell_catalog.ensures.told _ tt

pub returns-in-Catalog-clause-alone : goal.returns-in-Catalog-clause-alone
returns-in-Catalog-clause-alone g c = changes_none (folder_of c.args.self) c.args.command _

pub returns-in-Catalog-clause-gone : goal.returns-in-Catalog-clause-gone
returns-in-Catalog-clause-gone g c = λ told.
    gone_from_none (table_in (folder_of c.args.self)) (table_in (folder_of c.tell_catalog.result.0)) (ap (λ (x : FolderSession). table_in (folder_of x)) c.tell_catalog.ensures.session) (g.D.Store.view c.args.store.now) (g.D.Store.counts c.args.store.now) (g.D.Store.counts c.args.store.now)

pub returns-in-Catalog-clause-crash : goal.returns-in-Catalog-clause-crash
returns-in-Catalog-clause-crash g c = λ told stands. subst (λ (x : FolderSession). FolderStands (g.D.Store.view c.args.store.now) (folder_of x)) (sym c.tell_catalog.ensures.session) stands

pub returns-in-Catalog-clause-of_no_file : goal.returns-in-Catalog-clause-of_no_file
returns-in-Catalog-clause-of_no_file g c = list_tells told_catalog (table_in (folder_of c.args.self)) _ c.tell_catalog.ensures.told tt

-- ---- what goes on standing

pub returns-in-Entries-clause-later : goal.returns-in-Entries-clause-later
returns-in-Entries-clause-later g c =
    same_later c.args.held.now (table_in (folder_of c.args.self)) (table_in (folder_of c.tell_entries.result.0)) (ap (λ (x : FolderSession). table_in (folder_of x)) c.tell_entries.ensures.session)

pub returns-in-Catalog-clause-later : goal.returns-in-Catalog-clause-later
returns-in-Catalog-clause-later g c =
    same_later c.args.held.now (table_in (folder_of c.args.self)) (table_in (folder_of c.tell_catalog.result.0)) (ap (λ (x : FolderSession). table_in (folder_of x)) c.tell_catalog.ensures.session)

pub returns-in-Stream-clause-later : goal.returns-in-Stream-clause-later
returns-in-Stream-clause-later g c = c.make.ensures.later c.args.held.now

pub returns-in-Append-clause-later : goal.returns-in-Append-clause-later
returns-in-Append-clause-later g c = c.append.ensures.later c.args.held.now
