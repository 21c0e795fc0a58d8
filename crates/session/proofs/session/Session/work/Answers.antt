use Rattle.std.proofs.Common.{◌∙◌, None, IfOk, OnErr, refl, subst, inl}
use Rattle.outside_traits.proofs.RunLemmas.{spans_narrowed}
use Rattle.catalog_core.specs.IsTable.{IsTable}
use Rattle.catalog_core.specs.Table.{Table}
use Rattle.folder.specs.Folders.{table_in}
use Rattle.folder.specs.Left.{Everything, IsSoundForOneOf}
use Rattle.folder.specs.Sound.{IsSound}
use Rattle.folder_session.specs.Working.{IsPlannedOver}
use Rattle.folder_session.proofs.DroppedLemmas.{gone_from_none}
use Rattle.folder_session.proofs.LeavingLemmas.{failed_after, work_on, work_reads}
use Rattle.folder_session.proofs.TakenLemmas.{read_then, takes_then}
use Rattle.later_states.specs.Later.{IsLater}
use Rattle.session.specs.Jobs.{OpenJobs, AreLeftBehind}
use Rattle.session.specs.Machine.{held_by}
use Rattle.session.specs.Standing.{folder_of, jobs_of}
use Rattle.session.specs.Work.{IsEnded}
use Rattle.session.proofs.EndedLemmas.{closed_gone, ended_answers, ended_narrow, ended_no_fault, refused_since, same_whatever}
use Rattle.session.proofs.RunLemmas.{changes_at_work, found_at_work, most_at_work, refused_takes, refuses_work, worked_breaks, worked_found, worked_result, worked_takes}
use Rattle.session.proofs.session.Session.work.Goals as goal

-- ---- worked off

pub record-requires-clause-planned : goal.record-requires-clause-planned
record-requires-clause-planned g c = c.in-Ok.ensures.planned

pub returns-in-Ok-clause-ok : goal.returns-in-Ok-clause-ok
returns-in-Ok-clause-ok g c = λ told care m stands.
    let u = g.D.Store.view c.args.store.now in
    let w = g.D.Store.view c.work_off.new.store in
    let v = g.D.Store.view c.record.new.store in
    let e = stands.base.means.table_is in
    let narrows = c.work_off.ensures.narrows in
    let means = c.left_stores.ensures.means care c.args.store.now c.work_off.new.store _ _ m.state narrows stands.base.means in
    let done = c.in-Ok.done in
    let worked = c.in-Ok.ensures.ok told care m.state stands.base in
    let planned = subst (λ (x : Table). IsPlannedOver x done) e c.in-Ok.ensures.planned in
    let is_table = subst IsTable (c.catalog.ensures ∙ e) c.know_table.ensures in
    worked_result care u w v c.args.self m stands c.args.command c.requires.work is_table done planned worked (spans_narrowed Everything (λ image. IsSound care image m.state) _ _ narrows stands.base.means.settled)
    c.job_work_stays.ensures.job c.job_work_stays.ensures.read c.record.result c.record.ensures.table
    (λ held free. subst (λ (x : Table). IfOk c.record.result (λ next. IsLater held x (table_in (folder_of next.0)))) e (c.record.ensures.later held free))
    (subst (λ (x : Table). IfOk c.record.result (λ next. IsEnded x done None (jobs_of c.args.self) (jobs_of next.0) next.1)) e c.record.ensures.ended)
    (c.record.ensures.ok told care m.state worked.program done.dropped.items worked.news (record { means = means; left = c.left_stores.ensures.meant care c.work_off.new.store _ _ m.state means }) worked.change_is worked.files)

pub returns-in-Ok-clause-err : goal.returns-in-Ok-clause-err
returns-in-Ok-clause-err g c = λ told care m stands.
    let u = g.D.Store.view c.args.store.now in
    let w = g.D.Store.view c.work_off.new.store in
    let v = g.D.Store.view c.record.new.store in
    let e = stands.base.means.table_is in
    let narrows = c.work_off.ensures.narrows in
    let means = c.left_stores.ensures.means care c.args.store.now c.work_off.new.store _ _ m.state narrows stands.base.means in
    let done = c.in-Ok.done in
    let worked = c.in-Ok.ensures.ok told care m.state stands.base in
    let planned = subst (λ (x : Table). IsPlannedOver x done) e c.in-Ok.ensures.planned in
    let is_table = subst IsTable (c.catalog.ensures ∙ e) c.know_table.ensures in
    worked_breaks care u w v c.args.self m stands c.args.command c.requires.work is_table done planned worked (spans_narrowed Everything (λ image. IsSound care image m.state) _ _ narrows stands.base.means.settled) c.record.result
    (subst (λ (x : Table). OnErr c.record.result ((news : OpenJobs) × AreLeftBehind x done.dropped.items None (jobs_of c.args.self) news)) e c.record.ensures.left)
    (c.record.ensures.err told care m.state worked.program done.dropped.items worked.news (record { means = means; left = c.left_stores.ensures.meant care c.work_off.new.store _ _ m.state means }) worked.change_is worked.files)

pub returns-in-Ok-clause-narrow : goal.returns-in-Ok-clause-narrow
returns-in-Ok-clause-narrow g c =
    ended_narrow c.in-Ok.done.work c.in-Ok.ensures.narrow c.record.result (ended_answers (table_in (folder_of c.args.self)) c.in-Ok.done None (jobs_of c.args.self) c.record.result c.record.ensures.ended)

pub returns-in-Ok-clause-alone : goal.returns-in-Ok-clause-alone
returns-in-Ok-clause-alone g c =
    changes_at_work c.args.self c.args.command c.requires.work _ _ (work_on (folder_of c.args.self) _ _ _ (work_reads (folder_of c.args.self) _ _ c.work_off.ensures.narrows) c.record.ensures.alone)

pub returns-in-Ok-clause-gone : goal.returns-in-Ok-clause-gone
returns-in-Ok-clause-gone g c = λ told.
    closed_gone (table_in (folder_of c.args.self)) (g.D.Store.view c.record.new.store) (g.D.Store.counts c.args.store.now) (g.D.Store.counts c.work_off.new.store) (g.D.Store.counts c.record.new.store) c.work_off.ensures.counts.removes c.record.result (c.record.ensures.gone told)

pub returns-in-Ok-clause-refused : goal.returns-in-Ok-clause-refused
returns-in-Ok-clause-refused g c = refused_since _ _ _ c.work_off.ensures.narrows c.record.result c.record.ensures.refused

pub returns-in-Ok-clause-fault : goal.returns-in-Ok-clause-fault
returns-in-Ok-clause-fault g c =
    ended_no_fault c.in-Ok.done.work _ c.record.result (ended_answers (table_in (folder_of c.args.self)) c.in-Ok.done None (jobs_of c.args.self) c.record.result c.record.ensures.ended)

pub returns-in-Ok-clause-only_fault : goal.returns-in-Ok-clause-only_fault
returns-in-Ok-clause-only_fault g c = same_whatever c.record.result _ _ (c.record.ensures.reads ∙ c.work_off.ensures.only_fault (λ is. absurd (cc)))

pub returns-in-Ok-clause-looks : goal.returns-in-Ok-clause-looks
returns-in-Ok-clause-looks g c = failed_after c.record.result _ (c.record.ensures.reads ∙ c.work_off.ensures.only_fault (λ is. absurd (cc)))

pub returns-in-Ok-clause-found : goal.returns-in-Ok-clause-found
returns-in-Ok-clause-found g c = λ told.
    let t = table_in (folder_of c.args.self) in
    worked_found t (jobs_of c.args.self) c.args.command (g.D.Store.view c.args.store.now).files c.in-Ok.done.work c.requires.work c.record.result (ended_answers t c.in-Ok.done None (jobs_of c.args.self) c.record.result c.record.ensures.ended)

pub returns-in-Ok-clause-taken : goal.returns-in-Ok-clause-taken
returns-in-Ok-clause-taken g c = λ told care m stands.
    let t = table_in (folder_of c.args.self) in
    let old = g.D.Store.counts c.args.store.now in
    let mid = g.D.Store.counts c.work_off.new.store in
    let new = g.D.Store.counts c.record.new.store in
    worked_takes t (jobs_of c.args.self) c.args.command c.in-Ok.done.work old new c.requires.work (read_then c.in-Ok.done.work.read old mid new (c.in-Ok.ensures.taken told care m.state stands.base) c.record.ensures.taken) c.record.result
    (ended_answers t c.in-Ok.done None (jobs_of c.args.self) c.record.result c.record.ensures.ended)

pub returns-in-Ok-clause-most : goal.returns-in-Ok-clause-most
returns-in-Ok-clause-most g c = λ told.
    let t = table_in (folder_of c.args.self) in
    let old = g.D.Store.counts c.args.store.now in
    let mid = g.D.Store.counts c.work_off.new.store in
    let new = g.D.Store.counts c.record.new.store in
    most_at_work t (jobs_of c.args.self) c.args.command old new c.requires.work (takes_then t c.args.command old mid new (c.work_off.ensures.most told) c.record.ensures.taken)

pub returns-in-Ok-clause-crash : goal.returns-in-Ok-clause-crash
returns-in-Ok-clause-crash g c = λ told stands. c.record.ensures.crash told (c.left_stores.ensures.stands c.args.store.now c.work_off.new.store _ _ c.work_off.ensures.narrows stands)

-- ---- or not

pub returns-in-Err-clause-ok : goal.returns-in-Err-clause-ok
returns-in-Err-clause-ok g c = λ told care m stands.
    let narrows = c.work_off.ensures.narrows in
    let means = c.left_stores.ensures.means care c.args.store.now c.work_off.new.store _ _ m.state narrows stands.base.means in
    refuses_work care (g.D.Store.view c.args.store.now) (g.D.Store.view c.work_off.new.store) c.args.self m (record { means = means; left = c.left_stores.ensures.meant care c.work_off.new.store _ _ m.state means }) stands.jobs
    (spans_narrowed Everything (IsSoundForOneOf care m.state m.state) _ _ narrows (λ image is. inl (stands.base.means.settled image is))) c.args.command c.requires.work c.in-Err.refusal
    (c.in-Err.ensures.err told care m.state stands.base (held_by m.jobs))

pub returns-in-Err-clause-alone : goal.returns-in-Err-clause-alone
returns-in-Err-clause-alone g c = changes_at_work c.args.self c.args.command c.requires.work _ _ (work_reads (folder_of c.args.self) _ _ c.work_off.ensures.narrows)

pub returns-in-Err-clause-gone : goal.returns-in-Err-clause-gone
returns-in-Err-clause-gone g c = λ told. (let t = table_in (folder_of c.args.self) in gone_from_none t t refl (g.D.Store.view c.work_off.new.store) (g.D.Store.counts c.args.store.now) (g.D.Store.counts c.work_off.new.store))

pub returns-in-Err-clause-found : goal.returns-in-Err-clause-found
returns-in-Err-clause-found g c = λ told. found_at_work (table_in (folder_of c.args.self)) (jobs_of c.args.self) c.args.command (g.D.Store.view c.args.store.now).files _ c.requires.work (c.in-Err.ensures.found told)

pub returns-in-Err-clause-taken : goal.returns-in-Err-clause-taken
returns-in-Err-clause-taken g c = λ told care m stands. refused_takes (table_in (folder_of c.args.self)) (jobs_of c.args.self) c.args.command c.in-Err.refusal (g.D.Store.counts c.args.store.now) (g.D.Store.counts c.work_off.new.store) c.requires.work

pub returns-in-Err-clause-most : goal.returns-in-Err-clause-most
returns-in-Err-clause-most g c = λ told. most_at_work (table_in (folder_of c.args.self)) (jobs_of c.args.self) c.args.command (g.D.Store.counts c.args.store.now) (g.D.Store.counts c.work_off.new.store) c.requires.work (c.work_off.ensures.most told)

pub returns-in-Err-clause-crash : goal.returns-in-Err-clause-crash
returns-in-Err-clause-crash g c = λ told stands. c.left_stores.ensures.stands c.args.store.now c.work_off.new.store _ _ c.work_off.ensures.narrows stands
