use Rattle.std.proofs.Common.{◌∙◌, ap, sym, refl, inr}
use Rattle.script_text.specs.declared.answer.Answer.TheVariants as answer
use Rattle.script_text.specs.declared.answer.Refusal.TheVariants as refusal
use Rattle.script_text.specs.declared.item.Command.TheVariants as command
use Rattle.catalog_core.specs.Catalogs.{table_of}
use Rattle.catalog_core.specs.Table.{Table}
use Rattle.folder.specs.Next.{with_rows}
use Rattle.planning.specs.Appending.{append_change}
use Rattle.folder_session.proofs.RowLemmas.{are_rows_of}
use Rattle.folder_session.proofs.StepLemmas.{refuses, stands_prepared, table_prepared, appended_ok, appended_err, kept_performs, kept_breaks}
use Rattle.folder_session.proofs.RefusalLemmas.{appending_refuses}
use Rattle.folder_session.proofs.TakenLemmas.{of_no_file}
use Rattle.outside_traits.proofs.RunLemmas.{narrows_none}
use Rattle.folder_session.proofs.LeavingLemmas.{appends_prepared, changes_none, leaves_given}
use Rattle.folder_session.specs.Standing.{folder_of}
use Rattle.later_states.proofs.Tables.{later-same}
use Rattle.folder_session.proofs.LaterLemmas.{prepared_later, same_later}
use Rattle.folder.specs.Folders.{table_in}
use Rattle.folder_session.proofs.session.FolderSession.append.Goals as goal

pub record_file-requires-clause-append : goal.record_file-requires-clause-append
record_file-requires-clause-append g c =
    let ok = c.in-Ok.ensures.ok in
    (ok.0, ok.2 ∙ ap (λ (t : Table). append_change t ok.0) (ap table_of c.catalog.ensures ∙ sym c.prepare.ensures.table), ok.4)

pub returns-in-Ok-prepare-clause-ok : goal.returns-in-Ok-prepare-clause-ok
returns-in-Ok-prepare-clause-ok g c = λ told care held s stands.
    let ok = c.in-Ok.ensures.ok in
    let same = ap table_of c.catalog.ensures ∙ stands.means.table_is in
    kept_performs care held _ _ s (with_rows s ok.0.place ok.0.rows) (command.Append c.args.name c.args.lines) (answer.Held c.in-Ok.plan.held) (appended_ok care held _ s same c.args.name c.args.lines ok.0 c.in-Ok.plan.held ok.1 ok.5) _
    (c.record_file.ensures.ok told care s ok.0 (stands_prepared care _ _ _ s c.prepare.ensures.table c.prepare.ensures.journal stands) (are_rows_of s _ same ok.0.place ok.0.rows ok.6) (ok.2 ∙ ap (λ (t : Table). append_change t ok.0) same) ok.4) c.record_file.ensures.answer

pub returns-in-Ok-prepare-clause-err : goal.returns-in-Ok-prepare-clause-err
returns-in-Ok-prepare-clause-err g c = λ told care held s stands.
    let ok = c.in-Ok.ensures.ok in
    let same = ap table_of c.catalog.ensures ∙ stands.means.table_is in
    kept_breaks care held _ _ s (with_rows s ok.0.place ok.0.rows) (command.Append c.args.name c.args.lines) (answer.Held c.in-Ok.plan.held) (appended_ok care held _ s same c.args.name c.args.lines ok.0 c.in-Ok.plan.held ok.1 ok.5) _
    (c.record_file.ensures.err told care s ok.0 (stands_prepared care _ _ _ s c.prepare.ensures.table c.prepare.ensures.journal stands) (are_rows_of s _ same ok.0.place ok.0.rows ok.6) (ok.2 ∙ ap (λ (t : Table). append_change t ok.0) same) ok.4)

pub returns-in-Err-clause-ok : goal.returns-in-Err-clause-ok
returns-in-Err-clause-ok g c = λ told care held s stands.
    refuses care _ c.args.self c.args.self s stands held (command.Append c.args.name c.args.lines) c.in-Err.refusal refl refl (appended_err care held _ s (ap table_of c.catalog.ensures ∙ stands.means.table_is) c.args.name c.args.lines c.in-Err.refusal c.in-Err.ensures.err)

pub returns-in-Err-prepare-clause-ok : goal.returns-in-Err-prepare-clause-ok
returns-in-Err-prepare-clause-ok g c = λ told care held s stands. refuses care _ c.args.self c.prepare.new.self s stands held (command.Append c.args.name c.args.lines) refusal.Memory c.prepare.ensures.table c.prepare.ensures.journal (inr tt)

pub returns-in-Ok-prepare-clause-of_no_file : goal.returns-in-Ok-prepare-clause-of_no_file
returns-in-Ok-prepare-clause-of_no_file g c = of_no_file (answer.Held c.in-Ok.plan.held) tt _ c.record_file.ensures.answer

pub returns-in-Err-clause-of_no_file : goal.returns-in-Err-clause-of_no_file
returns-in-Err-clause-of_no_file g c = appending_refuses (table_of c.catalog.result.now) c.args.name c.args.lines c.in-Err.refusal c.in-Err.ensures.err

pub returns-in-Ok-prepare-clause-crash : goal.returns-in-Ok-prepare-clause-crash
returns-in-Ok-prepare-clause-crash g c = λ told stands. c.record_file.ensures.crash told (table_prepared _ c.args.self c.prepare.new.self c.prepare.ensures.table c.prepare.ensures.journal stands)

pub returns-in-Err-prepare-clause-crash : goal.returns-in-Err-prepare-clause-crash
returns-in-Err-prepare-clause-crash g c = λ told stands. table_prepared _ c.args.self c.prepare.new.self c.prepare.ensures.table c.prepare.ensures.journal stands

pub returns-in-Ok-prepare-clause-refused : goal.returns-in-Ok-prepare-clause-refused
returns-in-Ok-prepare-clause-refused g c = leaves_given (g.D.Store.view c.args.store.now) (g.D.Store.view c.record_file.new.store) (answer.Held c.in-Ok.plan.held) tt _ c.record_file.ensures.answer

pub returns-in-Err-clause-refused : goal.returns-in-Err-clause-refused
returns-in-Err-clause-refused g c = narrows_none _

pub returns-in-Err-prepare-clause-refused : goal.returns-in-Err-prepare-clause-refused
returns-in-Err-prepare-clause-refused g c = narrows_none _

pub returns-in-Ok-prepare-clause-alone : goal.returns-in-Ok-prepare-clause-alone
returns-in-Ok-prepare-clause-alone g c = appends_prepared _ _ c.args.self c.prepare.new.self c.prepare.ensures.table c.prepare.ensures.journal c.record_file.ensures.alone

pub returns-in-Err-clause-alone : goal.returns-in-Err-clause-alone
returns-in-Err-clause-alone g c = changes_none (folder_of c.args.self) (command.Append c.args.name c.args.lines) _

pub returns-in-Err-prepare-clause-alone : goal.returns-in-Err-prepare-clause-alone
returns-in-Err-prepare-clause-alone g c = changes_none (folder_of c.args.self) (command.Append c.args.name c.args.lines) _

-- ---- what goes on standing

pub returns-in-Ok-prepare-clause-later : goal.returns-in-Ok-prepare-clause-later
returns-in-Ok-prepare-clause-later g c = λ held. prepared_later held (table_in (folder_of c.args.self)) (table_in (folder_of c.prepare.new.self)) c.prepare.ensures.table _ (c.record_file.ensures.later held)

pub returns-in-Err-clause-later : goal.returns-in-Err-clause-later
returns-in-Err-clause-later g c = λ held. later-same held (table_in (folder_of c.args.self))

pub returns-in-Err-prepare-clause-later : goal.returns-in-Err-prepare-clause-later
returns-in-Err-prepare-clause-later g c = λ held. same_later held (table_in (folder_of c.args.self)) (table_in (folder_of c.prepare.new.self)) c.prepare.ensures.table
