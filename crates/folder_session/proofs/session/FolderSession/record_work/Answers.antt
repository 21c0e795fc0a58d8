use Rattle.std.proofs.Common.{◌+◌, ◌^◌, ◌≤◌, ℕ, List, length, ap, refl, sym, subst}
use Rattle.std.specs.List.{All}
use Rattle.catalog_types.specs.declared.change.Change.{Change}
use Rattle.catalog_types.specs.declared.change.Change.TheVariants as change
use Rattle.catalog_core.specs.Catalogs.{table_of}
use Rattle.catalog_core.specs.IsTable.{IsTable}
use Rattle.catalog_core.specs.Table.{Fits, Table, after}
use Rattle.rows_core.specs.Limits.{file_end}
use Rattle.admission.specs.Admitting.{entries_of}
use Rattle.folder.specs.Folders.{table_in}
use Rattle.folder.specs.Next.{with_work}
use Rattle.folder.specs.Removing.{IsFree}
use Rattle.folder.proofs.NextStates.{table-with_work}
use Rattle.folder.specs.Standing.{IsNext}
use Rattle.folder.specs.Written.{AreWritten}
use Rattle.folder.proofs.FilesWritten.{counted_on}
use Rattle.folder_session.specs.Standing.{Stands, folder_of}
use Rattle.folder_session.proofs.DroppedLemmas.{FilesOfTables, dropped_files_free, gone_behind}
use Rattle.folder_session.proofs.LeavingLemmas.{writes_and_removes, writes_more}
use Rattle.folder_session.proofs.StepLemmas.{records_behind, breaks_behind, breaks_before}
use Rattle.folder_session.proofs.WorkLemmas.{are-ready, numbered, recorded, no_checkpoint, work_fits}
use Rattle.work_turns.specs.Ends.{files_among}
use Rattle.folder_session.proofs.session.FolderSession.record_work.Goals as goal

pub write_files-requires : goal.write_files-requires
write_files-requires g c =
    let planned = c.requires.planned in
    subst (λ (files : List (List ℕ)). (table_in (folder_of c.args.self)).next_file + 0 + length files ≤ 2 ^ 32) (sym c.deref.ensures.value)
    (numbered (table_in (folder_of c.args.self)) planned.0 c.args.work.used.items planned.1 planned.2 c.args.work.plan planned.3 (subst (λ (t : Table). t.next_file ≤ file_end) (ap table_of c.catalog.ensures) c.know_table.ensures.last_file))

pub record_and_remove-requires-clause-record : goal.record_and_remove-requires-clause-record
record_and_remove-requires-clause-record g c = let planned = c.requires.planned in recorded (table_in (folder_of c.args.self)) planned.0 c.args.work.used.items planned.1 planned.2 c.args.work.plan planned.3

pub record_and_remove-requires-clause-no_checkpoint : goal.record_and_remove-requires-clause-no_checkpoint
record_and_remove-requires-clause-no_checkpoint g c = let planned = c.requires.planned in no_checkpoint (table_in (folder_of c.args.self)) planned.0 c.args.work.used.items planned.1 planned.2 c.args.work.plan planned.3

pub record_and_remove-requires-clause-free : goal.record_and_remove-requires-clause-free
record_and_remove-requires-clause-free g c =
    let t = table_in (folder_of c.args.self) in
    let planned = c.requires.planned in
    let used = c.args.work.used.items in
    let laws : FilesOfTables = record { given = c.files_of_tables.ensures.given; own = c.files_of_tables.ensures.own; apart = c.files_of_tables.ensures.apart } in
    let is_table = subst IsTable (ap table_of c.catalog.ensures) c.know_table.ensures in
    let next = (work_fits t planned.0 used planned.1 planned.2 c.args.work.plan planned.3).results.results.kept.files in
    subst (λ (files : List ℕ). All (IsFree (after c.args.work.plan.change t)) files) (sym planned.4)
    (subst (λ (x : Change). All (IsFree (after x t)) (files_among planned.1 t.entries)) (sym planned.3.change)
    (dropped_files_free laws t is_table planned.0 used planned.1 (entries_of planned.3.admitted) next))

pub returns-in-Ok-clause-ok : goal.returns-in-Ok-clause-ok
returns-in-Ok-clause-ok g c = λ told care s program dropped news stands change_is new_files.
    let same = stands.means.table_is in
    let means = c.write_files.ensures.means told care s stands.means in
    let stands' : Stands care (g.D.Store.view c.write_files.new.store) c.args.self s = record { means = means; left = c.left_stores.ensures.meant care c.write_files.new.store _ _ s means } in
    let fits_here = subst (λ (x : Change). Fits x (table_in (folder_of c.args.self))) change_is c.requires.planned.3.fits in
    let fits = subst (λ (t : Table). Fits (change.Work program c.args.work.used.items dropped news) t) same fits_here in
    let ready = are-ready (g.D.Store.view c.write_files.new.store) s.streams (table_in (folder_of c.args.self)) program c.args.work.used.items dropped news c.args.work.plan.files.items fits_here new_files (subst (AreWritten (g.D.Store.view c.write_files.new.store) ((table_in (folder_of c.args.self)).next_file + 0)) c.deref.ensures.value (c.in-Ok.ensures.stable told)) in
    let next = c.next_states.ensures.work care c.write_files.new.store s program c.args.work.used.items dropped news means.settled means.valid fits ready in
    records_behind care _ _ _ s (with_work s program c.args.work.used.items dropped news) (c.write_files.ensures.stays told care s stands.means) _
    (c.record_and_remove.ensures.ok told care s _ stands' (subst (λ x. IsNext care (g.D.Store.view c.write_files.new.store) s x (with_work s program c.args.work.used.items dropped news)) (sym change_is) next))

pub returns-in-Ok-clause-err : goal.returns-in-Ok-clause-err
returns-in-Ok-clause-err g c = λ told care s program dropped news stands change_is new_files.
    let same = stands.means.table_is in
    let means = c.write_files.ensures.means told care s stands.means in
    let stands' : Stands care (g.D.Store.view c.write_files.new.store) c.args.self s = record { means = means; left = c.left_stores.ensures.meant care c.write_files.new.store _ _ s means } in
    let fits_here = subst (λ (x : Change). Fits x (table_in (folder_of c.args.self))) change_is c.requires.planned.3.fits in
    let fits = subst (λ (t : Table). Fits (change.Work program c.args.work.used.items dropped news) t) same fits_here in
    let ready = are-ready (g.D.Store.view c.write_files.new.store) s.streams (table_in (folder_of c.args.self)) program c.args.work.used.items dropped news c.args.work.plan.files.items fits_here new_files (subst (AreWritten (g.D.Store.view c.write_files.new.store) ((table_in (folder_of c.args.self)).next_file + 0)) c.deref.ensures.value (c.in-Ok.ensures.stable told)) in
    let next = c.next_states.ensures.work care c.write_files.new.store s program c.args.work.used.items dropped news means.settled means.valid fits ready in
    breaks_behind care _ _ _ s (with_work s program c.args.work.used.items dropped news) (c.write_files.ensures.stays told care s stands.means) _
    (c.record_and_remove.ensures.err told care s _ stands' (subst (λ x. IsNext care (g.D.Store.view c.write_files.new.store) s x (with_work s program c.args.work.used.items dropped news)) (sym change_is) next))

pub returns-in-Err-clause-err : goal.returns-in-Err-clause-err
returns-in-Err-clause-err g c = λ told care s program dropped news stands change_is new_files.
    let means = c.write_files.ensures.means told care s stands.means in
    let fits_here = subst (λ (x : Change). Fits x (table_in (folder_of c.args.self))) change_is c.requires.planned.3.fits in
    let fits = subst (λ (t : Table). Fits (change.Work program c.args.work.used.items dropped news) t) stands.means.table_is fits_here in
    breaks_before care _ _ (g.D.Store.view c.write_files.new.store) s (with_work s program c.args.work.used.items dropped news) (c.write_files.ensures.stays told care s stands.means)
    (change.Work program c.args.work.used.items dropped news, ((refl, fits), table-with_work s program c.args.work.used.items dropped news)) (c.left_stores.ensures.meant care c.write_files.new.store _ _ s means)

pub returns-in-Ok-clause-crash : goal.returns-in-Ok-clause-crash
returns-in-Ok-clause-crash g c = λ told stands. c.record_and_remove.ensures.crash told (c.write_files.ensures.stands stands)

pub returns-in-Ok-clause-no_fault : goal.returns-in-Ok-clause-no_fault
returns-in-Ok-clause-no_fault g c = counted_on _ _ _ _ c.in-Ok.ensures.no_fault c.record_and_remove.ensures.no_fault

pub returns-in-Ok-clause-alone : goal.returns-in-Ok-clause-alone
returns-in-Ok-clause-alone g c =
    writes_and_removes (folder_of c.args.self) c.args.gone.now (g.D.Store.view c.args.store.now) (g.D.Store.view c.write_files.new.store) (g.D.Store.view c.record_and_remove.new.store) c.write_files.ensures.alone c.record_and_remove.ensures.alone

pub returns-in-Err-clause-alone : goal.returns-in-Err-clause-alone
returns-in-Err-clause-alone g c = writes_more (folder_of c.args.self) c.args.gone.now (g.D.Store.view c.args.store.now) (g.D.Store.view c.write_files.new.store) c.write_files.ensures.alone

pub returns-in-Ok-clause-gone : goal.returns-in-Ok-clause-gone
returns-in-Ok-clause-gone g c = λ told. gone_behind c.args.gone.now (g.D.Store.view c.record_and_remove.new.store) (g.D.Store.counts c.write_files.new.store) (g.D.Store.counts c.record_and_remove.new.store) (g.D.Store.counts c.args.store.now) c.record_and_remove.result c.write_files.ensures.counts.removes (c.record_and_remove.ensures.gone told)

pub returns-in-Ok-clause-later : goal.returns-in-Ok-clause-later
returns-in-Ok-clause-later g c = λ held spares. c.record_and_remove.ensures.later held spares
