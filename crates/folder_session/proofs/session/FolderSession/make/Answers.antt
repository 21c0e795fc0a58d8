use Rattle.std.proofs.Common.{◌∙◌, ap, sym, subst, refl, inr}
use Rattle.outside_traits.specs.Runs.{ChangesOnly}
use Rattle.catalog_core.specs.Catalogs.{table_of}
use Rattle.journal_store.specs.Journals.{generation_of}
use Rattle.journal_store.specs.Readings.{generation_file}
use Rattle.journal_store.specs.declared.journal.Journal.{Journal}
use Rattle.script_text.specs.declared.answer.Answer.TheVariants as answer
use Rattle.script_text.specs.declared.answer.Refusal.TheVariants as refusal
use Rattle.script_text.specs.declared.item.Command.TheVariants as command
use Rattle.catalog_core.specs.Table.{Fits}
use Rattle.folder.specs.Next.{with_stream}
use Rattle.folder.specs.Standing.{IsNext}
use Rattle.folder.specs.State.{table}
use Rattle.folder_session.proofs.StepLemmas.{refuses, stands_prepared, table_prepared, made_ok, made_err, kept_performs, kept_breaks}
use Rattle.folder_session.proofs.RefusalLemmas.{making_refuses}
use Rattle.folder_session.proofs.TakenLemmas.{of_no_file}
use Rattle.outside_traits.proofs.RunLemmas.{narrows_none}
use Rattle.folder_session.proofs.LeavingLemmas.{changes_none, leaves_given, streams_log}
use Rattle.folder_session.specs.Standing.{folder_of}
use Rattle.later_states.specs.Later.{SparesHeld}
use Rattle.later_states.proofs.Tables.{later-same}
use Rattle.folder_session.proofs.LaterLemmas.{prepared_later, same_later}
use Rattle.folder.specs.Folders.{table_in}
use Rattle.folder_session.proofs.session.FolderSession.make.Goals as goal

pub returns-in-Ok-prepare-clause-ok : goal.returns-in-Ok-prepare-clause-ok
returns-in-Ok-prepare-clause-ok g c = λ told care held s stands.
    let ok = c.in-Ok.ensures.ok in
    let is = c.in-Ok.ensures.change in
    let same = ap table_of c.catalog.ensures ∙ stands.means.table_is in
    let fits = subst (λ x. Fits x (table s)) is (subst (λ t. Fits c.in-Ok.recording.change t) same c.in-Ok.ensures.recorded.fits) in
    let next = c.next_states.ensures.stream care c.args.store.now s c.args.name c.args.columns stands.means.settled stands.means.valid fits in
    kept_performs care held _ _ s (with_stream s c.args.name c.args.columns) (command.Stream c.args.name c.args.columns) answer.Ok (made_ok care held _ s same c.args.name c.args.columns c.in-Ok.recording.change ok) _
    (c.record.ensures.ok told care s _ (stands_prepared care _ _ _ s c.prepare.ensures.table c.prepare.ensures.journal stands) (subst (λ x. IsNext care (g.D.Store.view c.args.store.now) s x (with_stream s c.args.name c.args.columns)) (sym is) next)) c.record.ensures.answer

pub returns-in-Ok-prepare-clause-err : goal.returns-in-Ok-prepare-clause-err
returns-in-Ok-prepare-clause-err g c = λ told care held s stands.
    let ok = c.in-Ok.ensures.ok in
    let is = c.in-Ok.ensures.change in
    let same = ap table_of c.catalog.ensures ∙ stands.means.table_is in
    let fits = subst (λ x. Fits x (table s)) is (subst (λ t. Fits c.in-Ok.recording.change t) same c.in-Ok.ensures.recorded.fits) in
    let next = c.next_states.ensures.stream care c.args.store.now s c.args.name c.args.columns stands.means.settled stands.means.valid fits in
    kept_breaks care held _ _ s (with_stream s c.args.name c.args.columns) (command.Stream c.args.name c.args.columns) answer.Ok (made_ok care held _ s same c.args.name c.args.columns c.in-Ok.recording.change ok) _
    (c.record.ensures.err told care s _ (stands_prepared care _ _ _ s c.prepare.ensures.table c.prepare.ensures.journal stands) (subst (λ x. IsNext care (g.D.Store.view c.args.store.now) s x (with_stream s c.args.name c.args.columns)) (sym is) next))

pub returns-in-Err-clause-ok : goal.returns-in-Err-clause-ok
returns-in-Err-clause-ok g c = λ told care held s stands.
    refuses care _ c.args.self c.args.self s stands held (command.Stream c.args.name c.args.columns) c.in-Err.refusal refl refl (made_err care held _ s (ap table_of c.catalog.ensures ∙ stands.means.table_is) c.args.name c.args.columns c.in-Err.refusal c.in-Err.ensures.err)

pub returns-in-Err-prepare-clause-ok : goal.returns-in-Err-prepare-clause-ok
returns-in-Err-prepare-clause-ok g c = λ told care held s stands. refuses care _ c.args.self c.prepare.new.self s stands held (command.Stream c.args.name c.args.columns) refusal.Memory c.prepare.ensures.table c.prepare.ensures.journal (inr tt)

pub returns-in-Ok-prepare-clause-of_no_file : goal.returns-in-Ok-prepare-clause-of_no_file
returns-in-Ok-prepare-clause-of_no_file g c = of_no_file answer.Ok tt _ c.record.ensures.answer

pub returns-in-Err-clause-of_no_file : goal.returns-in-Err-clause-of_no_file
returns-in-Err-clause-of_no_file g c = making_refuses (table_of c.catalog.result.now) c.args.name c.args.columns c.in-Err.refusal c.in-Err.ensures.err

pub returns-in-Ok-prepare-clause-crash : goal.returns-in-Ok-prepare-clause-crash
returns-in-Ok-prepare-clause-crash g c = λ told stands. c.record.ensures.crash told (table_prepared _ c.args.self c.prepare.new.self c.prepare.ensures.table c.prepare.ensures.journal stands)

pub returns-in-Err-prepare-clause-crash : goal.returns-in-Err-prepare-clause-crash
returns-in-Err-prepare-clause-crash g c = λ told stands. table_prepared _ c.args.self c.prepare.new.self c.prepare.ensures.table c.prepare.ensures.journal stands

pub returns-in-Ok-prepare-clause-refused : goal.returns-in-Ok-prepare-clause-refused
returns-in-Ok-prepare-clause-refused g c = leaves_given (g.D.Store.view c.args.store.now) (g.D.Store.view c.record.new.store) answer.Ok tt _ c.record.ensures.answer

pub returns-in-Err-clause-refused : goal.returns-in-Err-clause-refused
returns-in-Err-clause-refused g c = narrows_none _

pub returns-in-Err-prepare-clause-refused : goal.returns-in-Err-prepare-clause-refused
returns-in-Err-prepare-clause-refused g c = narrows_none _

pub returns-in-Ok-prepare-clause-alone : goal.returns-in-Ok-prepare-clause-alone
returns-in-Ok-prepare-clause-alone g c =
    streams_log (folder_of c.args.self) c.args.name c.args.columns _ _
    (subst (λ (x : Journal). ChangesOnly (generation_file (generation_of x)) (g.D.Store.view c.args.store.now) (g.D.Store.view c.record.new.store)) c.prepare.ensures.journal c.record.ensures.alone)

pub returns-in-Err-clause-alone : goal.returns-in-Err-clause-alone
returns-in-Err-clause-alone g c = changes_none (folder_of c.args.self) (command.Stream c.args.name c.args.columns) _

pub returns-in-Err-prepare-clause-alone : goal.returns-in-Err-prepare-clause-alone
returns-in-Err-prepare-clause-alone g c = changes_none (folder_of c.args.self) (command.Stream c.args.name c.args.columns) _

-- ---- what goes on standing

pub returns-in-Ok-prepare-clause-later : goal.returns-in-Ok-prepare-clause-later
returns-in-Ok-prepare-clause-later g c = λ held. prepared_later held (table_in (folder_of c.args.self)) (table_in (folder_of c.prepare.new.self)) c.prepare.ensures.table _ (c.record.ensures.later held (subst (SparesHeld held) (sym c.in-Ok.ensures.change) tt))

pub returns-in-Err-clause-later : goal.returns-in-Err-clause-later
returns-in-Err-clause-later g c = λ held. later-same held (table_in (folder_of c.args.self))

pub returns-in-Err-prepare-clause-later : goal.returns-in-Err-prepare-clause-later
returns-in-Err-prepare-clause-later g c = λ held. same_later held (table_in (folder_of c.args.self)) (table_in (folder_of c.prepare.new.self)) c.prepare.ensures.table
