use Rattle.std.proofs.Common.{◌∙◌, ◌+◌, refl, sym, ap, subst}
use Rattle.outside_traits.specs.View.{Now, Only}
use Rattle.catalog_core.specs.Table.{Fits, Table}
use Rattle.folder.specs.Folders.{table_in}
use Rattle.catalog_types.specs.declared.change.Change.TheVariants as change
use Rattle.folder.specs.Next.{new_extent, with_rows}
use Rattle.folder.specs.Standing.{IsNext}
use Rattle.folder.specs.State.{extent_of, table, file_bytes}
use Rattle.folder.proofs.NextStates.{table-with_rows}
use Rattle.folder.proofs.FilesWritten.{counted_on}
use Rattle.folder_session.specs.Standing.{Stands, folder_of}
use Rattle.folder_session.proofs.FileLemmas.{file_is, change_of, next_number, none_ahead}
use Rattle.folder_session.proofs.StepLemmas.{records_behind, breaks_behind, breaks_before}
use Rattle.folder_session.proofs.LeavingLemmas.{appends_both, appends_file}
use Rattle.later_states.specs.Later.{SparesHeld}
use Rattle.folder_session.proofs.session.FolderSession.record_file.Goals as goal

pub write_next-requires : goal.write_next-requires
write_next-requires g c = next_number _ _ c.requires.append.0 c.requires.append.1 c.requires.record.fits

pub returns-in-Ok-clause-ok : goal.returns-in-Ok-clause-ok
returns-in-Ok-clause-ok g c = λ told care s a stands are change_is bytes_is.
    let same = stands.means.table_is in
    let means = c.write_next.ensures.means told care s stands.means in
    let stands' : Stands care (g.D.Store.view c.write_next.new.store) c.args.self s = record { means = means; left = c.left_stores.ensures.meant care c.write_next.new.store _ _ s means } in
    let is = change_is ∙ change_of s a in
    let fits = subst (λ x. Fits x (table s)) is (subst (λ (t : Table). Fits c.args.plan.recording.change t) same c.requires.record.fits) in
    let bytes = c.deref.ensures.value ∙ bytes_is ∙ file_is a.rows in
    let only = subst (λ n. Only (file_bytes a.rows) (Now (g.D.Store.view c.write_next.new.store) n)) (none_ahead (table_in (folder_of c.args.self)).next_file ∙ ap (λ (t : Table). t.next_file) same)
    (subst (λ b. Only b (Now (g.D.Store.view c.write_next.new.store) ((table_in (folder_of c.args.self)).next_file + 0))) bytes (c.in-Ok.ensures.stable told)) in
    let next = c.next_states.ensures.rows care c.write_next.new.store s a.place a.rows means.settled means.valid fits are only in
    records_behind care _ _ _ s (with_rows s a.place a.rows) (c.write_next.ensures.stays told care s stands.means) _
    (c.record.ensures.ok told care s _ stands' (subst (λ x. IsNext care (g.D.Store.view c.write_next.new.store) s x (with_rows s a.place a.rows)) (sym is) next))

pub returns-in-Ok-clause-err : goal.returns-in-Ok-clause-err
returns-in-Ok-clause-err g c = λ told care s a stands are change_is bytes_is.
    let same = stands.means.table_is in
    let means = c.write_next.ensures.means told care s stands.means in
    let stands' : Stands care (g.D.Store.view c.write_next.new.store) c.args.self s = record { means = means; left = c.left_stores.ensures.meant care c.write_next.new.store _ _ s means } in
    let is = change_is ∙ change_of s a in
    let fits = subst (λ x. Fits x (table s)) is (subst (λ (t : Table). Fits c.args.plan.recording.change t) same c.requires.record.fits) in
    let bytes = c.deref.ensures.value ∙ bytes_is ∙ file_is a.rows in
    let only = subst (λ n. Only (file_bytes a.rows) (Now (g.D.Store.view c.write_next.new.store) n)) (none_ahead (table_in (folder_of c.args.self)).next_file ∙ ap (λ (t : Table). t.next_file) same)
    (subst (λ b. Only b (Now (g.D.Store.view c.write_next.new.store) ((table_in (folder_of c.args.self)).next_file + 0))) bytes (c.in-Ok.ensures.stable told)) in
    let next = c.next_states.ensures.rows care c.write_next.new.store s a.place a.rows means.settled means.valid fits are only in
    breaks_behind care _ _ _ s (with_rows s a.place a.rows) (c.write_next.ensures.stays told care s stands.means) _
    (c.record.ensures.err told care s _ stands' (subst (λ x. IsNext care (g.D.Store.view c.write_next.new.store) s x (with_rows s a.place a.rows)) (sym is) next))

pub returns-in-Err-clause-err : goal.returns-in-Err-clause-err
returns-in-Err-clause-err g c = λ told care s a stands are change_is bytes_is.
    let means = c.write_next.ensures.means told care s stands.means in
    let is = change_is ∙ change_of s a in
    let fits = subst (λ x. Fits x (table s)) is (subst (λ (t : Table). Fits c.args.plan.recording.change t) stands.means.table_is c.requires.record.fits) in
    breaks_before care _ _ (g.D.Store.view c.write_next.new.store) s (with_rows s a.place a.rows) (c.write_next.ensures.stays told care s stands.means)
    (change.Append a.place (extent_of (new_extent s.next_file a.rows)), ((refl, fits), table-with_rows s a.place a.rows)) (c.left_stores.ensures.meant care c.write_next.new.store _ _ s means)

pub returns-in-Ok-clause-crash : goal.returns-in-Ok-clause-crash
returns-in-Ok-clause-crash g c = λ told stands. c.record.ensures.crash told (c.write_next.ensures.stands stands)

pub returns-in-Ok-clause-no_fault : goal.returns-in-Ok-clause-no_fault
returns-in-Ok-clause-no_fault g c = counted_on _ _ _ _ c.in-Ok.ensures.no_fault c.record.ensures.no_fault

pub returns-in-Ok-clause-alone : goal.returns-in-Ok-clause-alone
returns-in-Ok-clause-alone g c = appends_both (folder_of c.args.self) _ _ _ c.write_next.ensures.alone c.record.ensures.alone

pub returns-in-Err-clause-alone : goal.returns-in-Err-clause-alone
returns-in-Err-clause-alone g c = appends_file (folder_of c.args.self) _ _ c.write_next.ensures.alone

pub returns-in-Ok-clause-later : goal.returns-in-Ok-clause-later
returns-in-Ok-clause-later g c = λ held. c.record.ensures.later held (subst (SparesHeld held) (sym c.requires.append.1) tt)
