use Rattle.std.proofs.Common.{◌⊎◌, ℕ, List, OnOk, ap, sym, subst, refl}
use Rattle.std.specs.List.{All}
use Rattle.outside_traits.specs.Counts.{Rose}
use Rattle.catalog_core.specs.Catalogs.{table_of}
use Rattle.catalog_core.specs.IsTable.{IsTable}
use Rattle.catalog_core.specs.Table.{after}
use Rattle.folder.specs.Folders.{table_in}
use Rattle.folder.specs.Next.{with_collection}
use Rattle.folder.specs.Removing.{AreGone, IsFree}
use Rattle.folder_session.specs.Standing.{RecordsAndRemoves, folder_of}
use Rattle.folder_session.proofs.CollectLemmas.{collection_recorded, collection_no_checkpoint, next_collection, files_free, have_files, changes_collected}
use Rattle.folder_session.proofs.DroppedLemmas.{gone_told}
use Rattle.folder_session.proofs.session.FolderSession.record_collection.Goals as goal

pub record_and_remove-requires-clause-record : goal.record_and_remove-requires-clause-record
record_and_remove-requires-clause-record g c = collection_recorded (table_in (folder_of c.args.self)) c.requires.planned.0 c.requires.planned.1 c.args.plan c.requires.planned.2

pub record_and_remove-requires-clause-no_checkpoint : goal.record_and_remove-requires-clause-no_checkpoint
record_and_remove-requires-clause-no_checkpoint g c = collection_no_checkpoint (table_in (folder_of c.args.self)) c.requires.planned.0 c.requires.planned.1 c.args.plan c.requires.planned.2

pub record_and_remove-requires-clause-free : goal.record_and_remove-requires-clause-free
record_and_remove-requires-clause-free g c =
    let planned = c.requires.planned in
    let is_table = subst IsTable (ap table_of c.catalog.ensures) c.know_table.ensures in
    subst (All (IsFree (after c.args.plan.change (table_in (folder_of c.args.self))))) (sym c.deref.ensures.value)
    (files_free c.files_that_went.ensures (table_in (folder_of c.args.self)) is_table planned.0 planned.1 c.args.plan planned.2)

pub returns-clause-ok : goal.returns-clause-ok
returns-clause-ok g c = λ told care s stands.
    c.record_and_remove.ensures.ok told care s (with_collection s c.args.plan.ids.items) stands (next_collection care (g.D.Store.view c.args.store.now) s (table_in (folder_of c.args.self)) stands.means.table_is c.requires.planned.0 c.requires.planned.1 c.args.plan c.requires.planned.2
    (c.next_states.ensures.collection care c.args.store.now s c.args.plan.ids.items stands.means.settled stands.means.valid))

pub returns-clause-err : goal.returns-clause-err
returns-clause-err g c = λ told care s stands.
    c.record_and_remove.ensures.err told care s (with_collection s c.args.plan.ids.items) stands (next_collection care (g.D.Store.view c.args.store.now) s (table_in (folder_of c.args.self)) stands.means.table_is c.requires.planned.0 c.requires.planned.1 c.args.plan c.requires.planned.2
    (c.next_states.ensures.collection care c.args.store.now s c.args.plan.ids.items stands.means.settled stands.means.valid))

pub returns-clause-alone : goal.returns-clause-alone
returns-clause-alone g c = λ wanted.
    changes_collected (table_in (folder_of c.args.self)) c.requires.planned.0 c.requires.planned.1 c.args.plan (subst IsTable (ap table_of c.catalog.ensures) c.know_table.ensures) c.requires.planned.2 (folder_of c.args.self) refl
    (g.D.Store.view c.args.store.now) (g.D.Store.view c.record_and_remove.new.store) wanted
    (subst (λ (files : List ℕ). RecordsAndRemoves (folder_of c.args.self) files (g.D.Store.view c.args.store.now) (g.D.Store.view c.record_and_remove.new.store)) c.deref.ensures.value c.record_and_remove.ensures.alone)

pub returns-clause-gone : goal.returns-clause-gone
returns-clause-gone g c = λ told.
    let t = table_in (folder_of c.args.self) in
    gone_told t (after c.args.plan.change t) c.args.plan.files.items (have_files t (subst IsTable (ap table_of c.catalog.ensures) c.know_table.ensures) c.requires.planned.0 c.requires.planned.1 c.args.plan c.requires.planned.2)
    (g.D.Store.view c.record_and_remove.new.store) (g.D.Store.counts c.args.store.now) (g.D.Store.counts c.record_and_remove.new.store) c.record_and_remove.result c.record_and_remove.ensures.table
    (subst (λ (files : List ℕ). OnOk c.record_and_remove.result (Rose (g.D.Store.counts c.args.store.now).removes (g.D.Store.counts c.record_and_remove.new.store).removes ⊎ AreGone (g.D.Store.view c.record_and_remove.new.store) files)) c.deref.ensures.value
    (c.record_and_remove.ensures.gone told))

pub returns-clause-later : goal.returns-clause-later
returns-clause-later g c = λ held spares. c.record_and_remove.ensures.later held spares
