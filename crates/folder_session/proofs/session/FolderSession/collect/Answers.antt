use Rattle.std.proofs.Common.{◌⊎◌, ◌∙◌, ap, sym, subst, refl, inr}
use Rattle.outside_traits.proofs.RunLemmas.{narrows_none}
use Rattle.catalog_core.specs.Catalogs.{table_of}
use Rattle.catalog_core.specs.Table.{Table}
use Rattle.planning.specs.Collecting.{IsCollectionPlan}
use Rattle.script_text.specs.declared.answer.Answer.TheVariants as answer
use Rattle.script_text.specs.declared.answer.Refusal.{Refusal}
use Rattle.script_text.specs.declared.answer.Refusal.TheVariants as refusal
use Rattle.script_text.specs.declared.item.Command.TheVariants as command
use Rattle.folder.specs.Folders.{table_in}
use Rattle.folder.specs.Next.{with_collection}
use Rattle.folder_session.specs.Causes.{SparesStore}
use Rattle.folder_session.specs.Machine.{refused, IsEvent}
use Rattle.folder_session.specs.Machine as machine
use Rattle.folder_session.specs.Standing.{folder_of}
use Rattle.folder_session.proofs.CollectLemmas.{collected_err, collection_no_checkpoint, collected_ok, collection_spares, changes_prepared}
use Rattle.folder_session.proofs.DroppedLemmas.{gone_as_prepared, gone_from_none}
use Rattle.folder_session.proofs.LeavingLemmas.{changes_none, leaves_given}
use Rattle.folder_session.proofs.StepLemmas.{refuses, stands_prepared, table_prepared, kept_performs, kept_breaks}
use Rattle.folder_session.proofs.TakenLemmas.{of_no_file}
use Rattle.later_states.proofs.Tables.{later-same}
use Rattle.folder_session.proofs.LaterLemmas.{prepared_later, same_later, collection_spares_held}
use Rattle.folder_session.proofs.session.FolderSession.collect.Goals as goal

pub prepare-requires-clause-no_checkpoint : goal.prepare-requires-clause-no_checkpoint
prepare-requires-clause-no_checkpoint g c = collection_no_checkpoint (table_of c.catalog.result.now) c.args.held.now c.args.reclaim c.in-Ok.plan c.in-Ok.ensures.ok

-- ---- refused

pub returns-in-Err-clause-ok : goal.returns-in-Err-clause-ok
returns-in-Err-clause-ok g c = λ told care s stands.
    let same = ap table_of c.catalog.ensures ∙ stands.means.table_is in
    refuses care _ c.args.self c.args.self s stands c.args.held.now (command.Collect c.args.reclaim) c.collection_refusal.result refl refl
    (subst (λ (why : Refusal). machine.Performs care c.args.held.now s (command.Collect c.args.reclaim) (refused s why) ⊎ IsEvent care s (command.Collect c.args.reclaim) why) (sym c.collection_refusal.ensures)
    (collected_err care c.args.held.now (table_of c.catalog.result.now) s same c.args.reclaim c.in-Err.refusal c.in-Err.ensures.commands))

pub returns-in-Err-clause-of_no_file : goal.returns-in-Err-clause-of_no_file
returns-in-Err-clause-of_no_file g c = subst SparesStore (sym c.collection_refusal.ensures) (collection_spares c.in-Err.refusal)

pub returns-in-Err-clause-refused : goal.returns-in-Err-clause-refused
returns-in-Err-clause-refused g c = narrows_none _

pub returns-in-Err-clause-alone : goal.returns-in-Err-clause-alone
returns-in-Err-clause-alone g c = changes_none (folder_of c.args.self) (command.Collect c.args.reclaim) _

-- ---- want of memory

pub returns-in-Err-prepare-clause-ok : goal.returns-in-Err-prepare-clause-ok
returns-in-Err-prepare-clause-ok g c = λ told care s stands. refuses care _ c.args.self c.prepare.new.self s stands c.args.held.now (command.Collect c.args.reclaim) refusal.Memory c.prepare.ensures.table c.prepare.ensures.journal (inr tt)

pub returns-in-Err-prepare-clause-crash : goal.returns-in-Err-prepare-clause-crash
returns-in-Err-prepare-clause-crash g c = λ told stands. table_prepared _ c.args.self c.prepare.new.self c.prepare.ensures.table c.prepare.ensures.journal stands

pub returns-in-Err-prepare-clause-refused : goal.returns-in-Err-prepare-clause-refused
returns-in-Err-prepare-clause-refused g c = narrows_none _

pub returns-in-Err-prepare-clause-alone : goal.returns-in-Err-prepare-clause-alone
returns-in-Err-prepare-clause-alone g c = changes_none (folder_of c.args.self) (command.Collect c.args.reclaim) _

-- ---- recorded

pub record_collection-requires-clause-planned : goal.record_collection-requires-clause-planned
record_collection-requires-clause-planned g c =
    (c.args.held.now, c.args.reclaim, subst (λ (t : Table). IsCollectionPlan t c.args.held.now c.args.reclaim c.in-Ok.plan) (ap table_of c.catalog.ensures ∙ sym c.prepare.ensures.table) c.in-Ok.ensures.ok)

pub returns-in-Ok-prepare-clause-ok : goal.returns-in-Ok-prepare-clause-ok
returns-in-Ok-prepare-clause-ok g c = λ told care s stands.
    let same = ap table_of c.catalog.ensures ∙ stands.means.table_is in
    let plan = c.in-Ok.plan in
    kept_performs care c.args.held.now _ _ s (with_collection s plan.ids.items) (command.Collect c.args.reclaim) (answer.Evicted plan.ids.items plan.bytes) (collected_ok care c.args.held.now _ s same c.args.reclaim plan c.in-Ok.ensures.ok) _
    (c.record_collection.ensures.ok told care s (stands_prepared care _ _ _ s c.prepare.ensures.table c.prepare.ensures.journal stands)) c.record_collection.ensures.answer

pub returns-in-Ok-prepare-clause-err : goal.returns-in-Ok-prepare-clause-err
returns-in-Ok-prepare-clause-err g c = λ told care s stands.
    let same = ap table_of c.catalog.ensures ∙ stands.means.table_is in
    let plan = c.in-Ok.plan in
    kept_breaks care c.args.held.now _ _ s (with_collection s plan.ids.items) (command.Collect c.args.reclaim) (answer.Evicted plan.ids.items plan.bytes) (collected_ok care c.args.held.now _ s same c.args.reclaim plan c.in-Ok.ensures.ok) _
    (c.record_collection.ensures.err told care s (stands_prepared care _ _ _ s c.prepare.ensures.table c.prepare.ensures.journal stands))

pub returns-in-Ok-prepare-clause-of_no_file : goal.returns-in-Ok-prepare-clause-of_no_file
returns-in-Ok-prepare-clause-of_no_file g c = of_no_file (answer.Evicted c.in-Ok.plan.ids.items c.in-Ok.plan.bytes) tt _ c.record_collection.ensures.answer

pub returns-in-Ok-prepare-clause-crash : goal.returns-in-Ok-prepare-clause-crash
returns-in-Ok-prepare-clause-crash g c = λ told stands. c.record_collection.ensures.crash told (table_prepared _ c.args.self c.prepare.new.self c.prepare.ensures.table c.prepare.ensures.journal stands)

pub returns-in-Ok-prepare-clause-refused : goal.returns-in-Ok-prepare-clause-refused
returns-in-Ok-prepare-clause-refused g c = leaves_given (g.D.Store.view c.args.store.now) (g.D.Store.view c.record_collection.new.store) (answer.Evicted c.in-Ok.plan.ids.items c.in-Ok.plan.bytes) tt _ c.record_collection.ensures.answer

pub returns-in-Ok-prepare-clause-alone : goal.returns-in-Ok-prepare-clause-alone
returns-in-Ok-prepare-clause-alone g c = changes_prepared _ _ c.args.reclaim c.args.self c.prepare.new.self c.prepare.ensures.table c.prepare.ensures.journal (c.record_collection.ensures.alone c.args.reclaim)

pub returns-in-Ok-prepare-clause-gone : goal.returns-in-Ok-prepare-clause-gone
returns-in-Ok-prepare-clause-gone g c = λ told.
    gone_as_prepared (table_in (folder_of c.args.self)) (table_in (folder_of c.prepare.new.self)) c.prepare.ensures.table (g.D.Store.view c.record_collection.new.store) (g.D.Store.counts c.args.store.now) (g.D.Store.counts c.record_collection.new.store)
    c.record_collection.result (c.record_collection.ensures.gone told)

pub returns-in-Err-clause-gone : goal.returns-in-Err-clause-gone
returns-in-Err-clause-gone g c = λ told. (let t = table_in (folder_of c.args.self) in gone_from_none t t refl (g.D.Store.view c.args.store.now) (g.D.Store.counts c.args.store.now) (g.D.Store.counts c.args.store.now))

pub returns-in-Err-prepare-clause-gone : goal.returns-in-Err-prepare-clause-gone
returns-in-Err-prepare-clause-gone g c = λ told.
    gone_from_none (table_in (folder_of c.args.self)) (table_in (folder_of c.prepare.new.self)) c.prepare.ensures.table (g.D.Store.view c.args.store.now) (g.D.Store.counts c.args.store.now) (g.D.Store.counts c.args.store.now)

-- ---- what goes on standing

pub returns-in-Ok-prepare-clause-later : goal.returns-in-Ok-prepare-clause-later
returns-in-Ok-prepare-clause-later g c =
    prepared_later c.args.held.now (table_in (folder_of c.args.self)) (table_in (folder_of c.prepare.new.self)) c.prepare.ensures.table _
    (c.record_collection.ensures.later c.args.held.now (collection_spares_held _ c.args.held.now c.args.reclaim c.in-Ok.plan c.in-Ok.ensures.ok))

pub returns-in-Err-clause-later : goal.returns-in-Err-clause-later
returns-in-Err-clause-later g c = later-same c.args.held.now (table_in (folder_of c.args.self))

pub returns-in-Err-prepare-clause-later : goal.returns-in-Err-prepare-clause-later
returns-in-Err-prepare-clause-later g c = same_later c.args.held.now (table_in (folder_of c.args.self)) (table_in (folder_of c.prepare.new.self)) c.prepare.ensures.table
