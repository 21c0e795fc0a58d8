use Rattle.std.proofs.Common.{◌⊎◌, ◌∙◌, ℕ, List, Ok, ap, sym, subst, refl, inl, inr}
use Rattle.std.specs.List.{Contains}
use Rattle.outside_traits.specs.Counts.{Rose}
use Rattle.catalog_types.specs.declared.change.Change.{Change}
use Rattle.catalog_core.specs.IsTable.{IsTable}
use Rattle.catalog_core.specs.Table.{Table, after}
use Rattle.entry_table.specs.Ids.{is_there}
use Rattle.folder.specs.Folders.{table_in}
use Rattle.folder.specs.Next.{with_work}
use Rattle.folder.specs.Removing.{AreGone}
use Rattle.folder_session.proofs.DroppedLemmas.{dropped_file, file_of_dropped, gone_as_prepared, gone_from_none, gone_told, was_dropped}
use Rattle.folder_session.proofs.LaterLemmas.{same_later}
use Rattle.folder_session.proofs.LeavingLemmas.{removes_prepared, work_none, work_removes}
use Rattle.folder_session.proofs.StepLemmas.{records_none, stands_prepared, table_prepared}
use Rattle.later_states.specs.Later.{IsLater, SparesHeld}
use Rattle.work_plan.specs.Planning.{IsWorkPlan}
use Rattle.work_turns.specs.Ends.{files_among}
use Rattle.session.specs.Jobs.{OpenJobs, AreHeldOver}
use Rattle.session.specs.Standing.{folder_of, jobs_of}
use Rattle.session.specs.Work.{IsRecorded, IsSameWhereRefused}
use Rattle.session.proofs.LeavingJobs.{behind_held}
use Rattle.session.proofs.session.Session.record.Goals as goal

pub record_work-requires-clause-planned : goal.record_work-requires-clause-planned
record_work-requires-clause-planned g c =
    let planned = c.requires.planned in
    let done = c.args.done in
    let dropped = done.dropped.items in
    let same = sym c.make_ready.ensures.table in
    (planned.program, dropped, planned.mades, subst (λ (x : Table). IsWorkPlan x planned.program done.work.used.items dropped planned.mades done.work.plan) same planned.planned, c.deref.ensures.value ∙ planned.gone ∙ ap (λ (x : Table). files_among dropped x.entries) same)

-- ---- recorded

pub returns-in-Ok-record_work-clause-ended : goal.returns-in-Ok-record_work-clause-ended
returns-in-Ok-record_work-clause-ended g c = inl (c.in-Ok-record_work.ensures.answer, c.in-Ok.ensures.jobs)

pub returns-in-Ok-record_work-clause-holds : goal.returns-in-Ok-record_work-clause-holds
returns-in-Ok-record_work-clause-holds g c =
    let t = table_in (folder_of c.args.self) in
    let u = table_in c.in-Ok-record_work.base.folder in
    behind_held t c.args.done.dropped.items (jobs_of c.args.self) c.requires.holds c.args.closed (jobs_of c.make_ready.new.self) c.in-Ok.ensures.jobs c.job_work_stays.ensures.job (subst IsTable c.catalog.ensures c.know_table.ensures) u
    (subst IsTable c.catalog-in-Ok-record_work.ensures c.know_table-in-Ok-record_work.ensures)
    (λ held free. subst (λ (x : Table). IsLater held x u) c.make_ready.ensures.table (c.in-Ok-record_work.ensures.later held (subst (SparesHeld held) (sym c.requires.planned.planned.change) free)))

pub returns-in-Ok-record_work-clause-ok : goal.returns-in-Ok-record_work-clause-ok
returns-in-Ok-record_work-clause-ok g c = λ told care s program dropped news stands change files.
    let ready = stands_prepared care _ c.args.self.base c.make_ready.new.self.base s c.make_ready.ensures.table c.make_ready.ensures.journal stands in
    subst (λ given. IsRecorded care (g.D.Store.view c.args.store.now) (g.D.Store.view c.record_work.new.store) c.in-Ok-record_work.base s (with_work s program c.args.done.work.used.items dropped news) given) (sym c.in-Ok-record_work.ensures.answer)
    (c.in-Ok-record_work.ensures.ok told care s program dropped news ready change files)

pub returns-in-Ok-record_work-clause-later : goal.returns-in-Ok-record_work-clause-later
returns-in-Ok-record_work-clause-later g c = λ held free.
    subst (λ (t : Table). IsLater held t (table_in c.in-Ok-record_work.base.folder)) c.make_ready.ensures.table (c.in-Ok-record_work.ensures.later held (subst (SparesHeld held) (sym c.requires.planned.planned.change) free))

pub returns-in-Ok-record_work-clause-same : goal.returns-in-Ok-record_work-clause-same
returns-in-Ok-record_work-clause-same g c = subst (IsSameWhereRefused (table_in (folder_of c.args.self)) (table_in c.in-Ok-record_work.base.folder)) (sym c.in-Ok-record_work.ensures.answer) tt

pub returns-in-Ok-record_work-clause-alone : goal.returns-in-Ok-record_work-clause-alone
returns-in-Ok-record_work-clause-alone g c =
    let dropped = c.args.done.dropped.items in
    let folder = folder_of c.args.self in
    let files = c.deref.ensures.value ∙ c.requires.planned.gone in
    let view = g.D.Store.view c.record_work.new.store in
    work_removes folder c.deref.result.now (λ file has. file_of_dropped dropped (table_in folder).entries file (subst (λ (fs : List ℕ). Contains fs file) files has)) (g.D.Store.view c.args.store.now) view
    (removes_prepared c.deref.result.now (g.D.Store.view c.args.store.now) view c.args.self.base c.make_ready.new.self.base c.make_ready.ensures.table c.make_ready.ensures.journal c.record_work.ensures.alone)

pub returns-in-Ok-record_work-clause-gone : goal.returns-in-Ok-record_work-clause-gone
returns-in-Ok-record_work-clause-gone g c = λ told.
    let planned = c.requires.planned in
    let done = c.args.done in
    let dropped = done.dropped.items in
    let u = table_in (folder_of c.make_ready.new.self) in
    let work = done.work in
    let same = sym c.make_ready.ensures.table in
    let plan = subst (λ (x : Table). IsWorkPlan x planned.program work.used.items dropped planned.mades work.plan) same planned.planned in
    let view = g.D.Store.view c.record_work.new.store in
    let old = g.D.Store.counts c.args.store.now in
    let new = g.D.Store.counts c.record_work.new.store in
    let files = c.deref.ensures.value ∙ planned.gone ∙ ap (λ (x : Table). files_among dropped x.entries) same in
    let next = Ok (c.in-Ok-record_work.base, c.in-Ok-record_work.answer) in
    gone_as_prepared (table_in (folder_of c.args.self)) u c.make_ready.ensures.table view old new next
    (gone_told u (after work.plan.change u) (files_among dropped u.entries)
    (λ e has out. dropped_file dropped u.entries e has (was_dropped _ work.used.items dropped u.entries _ e has (ap (λ (x : Change). is_there (after x u).entries e.id) (sym plan.change) ∙ out))) view old new next c.in-Ok-record_work.ensures.table
    (subst (λ (fs : List ℕ). Rose old.removes new.removes ⊎ AreGone view fs) files (c.in-Ok-record_work.ensures.gone told)))

-- ---- the store failed

pub returns-in-Ok-clause-err : goal.returns-in-Ok-clause-err
returns-in-Ok-clause-err g c = λ told care s program dropped news stands change files.
    c.in-Err-record_work.ensures.err told care s program dropped news (stands_prepared care _ c.args.self.base c.make_ready.new.self.base s c.make_ready.ensures.table c.make_ready.ensures.journal stands) change files

pub returns-in-Ok-clause-left : goal.returns-in-Ok-clause-left
returns-in-Ok-clause-left g c = (jobs_of c.make_ready.new.self, c.in-Ok.ensures.jobs)

pub returns-in-Ok-clause-alone : goal.returns-in-Ok-clause-alone
returns-in-Ok-clause-alone g c =
    let dropped = c.args.done.dropped.items in
    let folder = folder_of c.args.self in
    let files = c.deref.ensures.value ∙ c.requires.planned.gone in
    let view = g.D.Store.view c.record_work.new.store in
    work_removes folder c.deref.result.now (λ file has. file_of_dropped dropped (table_in folder).entries file (subst (λ (fs : List ℕ). Contains fs file) files has)) (g.D.Store.view c.args.store.now) view
    (removes_prepared c.deref.result.now (g.D.Store.view c.args.store.now) view c.args.self.base c.make_ready.new.self.base c.make_ready.ensures.table c.make_ready.ensures.journal c.record_work.ensures.alone)

-- ---- want of memory

pub returns-clause-ended : goal.returns-clause-ended
returns-clause-ended g c = inr (refl, c.in-Err.ensures.same)

pub returns-clause-holds : goal.returns-clause-holds
returns-clause-holds g c =
    subst (λ (opens : OpenJobs). AreHeldOver (table_in (folder_of c.make_ready.new.self)) opens) (sym c.in-Err.ensures.same) (subst (λ (t : Table). AreHeldOver t (jobs_of c.args.self)) (sym c.make_ready.ensures.table) c.requires.holds)

pub returns-clause-ok : goal.returns-clause-ok
returns-clause-ok g c = λ told care s program dropped news stands change files.
    records_none care (g.D.Store.view c.args.store.now) c.args.self.base c.make_ready.new.self.base s stands c.make_ready.ensures.table c.make_ready.ensures.journal

pub returns-clause-later : goal.returns-clause-later
returns-clause-later g c = λ held free. same_later held (table_in (folder_of c.args.self)) (table_in (folder_of c.make_ready.new.self)) c.make_ready.ensures.table

pub returns-clause-alone : goal.returns-clause-alone
returns-clause-alone g c = work_none (folder_of c.args.self) (g.D.Store.view c.args.store.now)

pub returns-clause-gone : goal.returns-clause-gone
returns-clause-gone g c = λ told.
    gone_from_none (table_in (folder_of c.args.self)) (table_in (folder_of c.make_ready.new.self)) c.make_ready.ensures.table (g.D.Store.view c.args.store.now) (g.D.Store.counts c.args.store.now) (g.D.Store.counts c.args.store.now)

pub returns-clause-crash : goal.returns-clause-crash
returns-clause-crash g c = λ told stands. table_prepared _ c.args.self.base c.make_ready.new.self.base c.make_ready.ensures.table c.make_ready.ensures.journal stands
