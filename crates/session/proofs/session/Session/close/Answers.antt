use Rattle.std.proofs.Common.{◌≡◌, IfOk, OnErr, Some, inl, refl, sym, ap, ◌∙◌, subst, Bool, length-set, arith}
use Rattle.std.proofs.Math.ListN.{set}
use Rattle.outside_traits.proofs.RunLemmas.{spans_narrowed}
use Rattle.plan_core.specs.PlainPlan.{PlainPlan}
use Rattle.catalog_core.specs.Catalogs.{table_of}
use Rattle.catalog_core.specs.IsTable.{IsTable}
use Rattle.catalog_core.specs.Table.{Table}
use Rattle.script_text.specs.declared.answer.Answer.TheVariants as answer
use Rattle.script_text.specs.declared.answer.Refusal.TheVariants as refusal
use Rattle.script_text.specs.declared.item.Command.TheVariants as command
use Rattle.folder.specs.Folders.{table_in}
use Rattle.folder.specs.Left.{Everything, IsSoundForOneOf}
use Rattle.folder.specs.Sound.{IsSound}
use Rattle.folder.specs.State.{table}
use Rattle.folder_session.specs.Working.{IsPlannedOver}
use Rattle.folder_session.proofs.DroppedLemmas.{gone_from_none}
use Rattle.folder_session.proofs.LeavingLemmas.{failed_after, work_on, work_reads}
use Rattle.job_table.specs.declared.table.OpenJob.{OpenJob}
use Rattle.later_states.specs.Later.{IsLater}
use Rattle.work_turns.specs.Ends.{those_among}
use Rattle.job_turns.specs.Jobs as work
use Rattle.job_turns.specs.Turns.{Reads}
use Rattle.job_turns.specs.declared.job.JobWork.{JobWork}
use Rattle.session.specs.Jobs.{OpenJobs, AreHeldOver, AreLeftBehind, IsJob}
use Rattle.session.specs.Standing.{folder_of, jobs_of}
use Rattle.session.specs.Causes.{IsFoundOf}
use Rattle.session.specs.Taken.{TakesAsTold, TakesGoingOn}
use Rattle.session.specs.Work.{IsEnded, IsNotClosed, IsWithin}
use Rattle.session.proofs.CloseLemmas.{unknown_close}
use Rattle.session.proofs.ClosingLemmas.{closed_breaks, closed_result, found, not_closed_performs}
use Rattle.session.proofs.EndedLemmas.{closed_gone, closed_takes, ended_answers, ended_found, ended_narrow, ended_no_fault, ended_taken, refused_since, same_whatever}
use Rattle.session.proofs.FoundLemmas.{close_found, close_most, held_at, most_on, not_closed_rose, not_closed_unread, read_held, reads_most, stopped_found, stopped_most, unclosed_most}
use Rattle.session.proofs.JobSteps.{same_name}
use Rattle.session.proofs.OpenLemmas.{stays}
use Rattle.session.proofs.Places.{first_at, job_at, none_at, none_named, within_first}
use Rattle.session.proofs.session.Session.close.Goals as goal

-- ---- no job of the name is open

pub returns-in_default-clause-ok : goal.returns-in_default-clause-ok
returns-in_default-clause-ok g c = λ told care m stands.
    let jobs = jobs_of c.args.self in
    let without = none_named c.args.name (IsJob m.state) (same_name m.state) m.jobs jobs stands.jobs (none_at c.args.name jobs (sym c.place_of.ensures ∙ c.in_default.is)) in
    stays care (g.D.Store.view c.args.store.now) c.args.self c.args.self m (command.Close c.args.name) (answer.Refused (refusal.Unknown c.args.name)) stands refl refl (unknown_close care m c.args.name without.0)

pub returns-in_default-clause-gone : goal.returns-in_default-clause-gone
returns-in_default-clause-gone g c = λ told. (let t = table_in (folder_of c.args.self) in gone_from_none t t refl (g.D.Store.view c.args.store.now) (g.D.Store.counts c.args.store.now) (g.D.Store.counts c.args.store.now))

pub returns-in_default-clause-most : goal.returns-in_default-clause-most
returns-in_default-clause-most g c = λ told. unclosed_most (jobs_of c.args.self) c.args.name (sym c.place_of.ensures ∙ c.in_default.is) (table_in (folder_of c.args.self)) (g.D.Store.counts c.args.store.now)

-- ---- what closing asks

pub close_work-closed-requires : goal.close_work-closed-requires
close_work-closed-requires g c =
    let jobs = jobs_of c.args.self in
    let is = held_at jobs c.args.name c.in-Some.at c.index_mut.result.now (sym c.place_of.ensures ∙ c.in-Some.is) c.index_mut.ensures.value (table_of c.catalog-2.result.now)
    (subst (λ (t : Table). AreHeldOver t jobs) (sym c.catalog-2.ensures) c.requires.holds) in
    (is.plan, is.is_job)

-- ---- closed

pub record-requires-clause-planned : goal.record-requires-clause-planned
record-requires-clause-planned g c = subst (λ (x : Table). IsPlannedOver x c.in-Ok.done) c.catalog-2.ensures c.in-Ok.ensures.planned

pub record-requires-clause-holds : goal.record-requires-clause-holds
record-requires-clause-holds g c =
    let o = c.index_mut.result.now in
    let job = c.close_work-closed.new.work in
    let still = subst (λ (x : Table). (plan : PlainPlan) → work.IsJob x plan o.job → work.IsJob x plan job) c.catalog-2.ensures c.in-Ok.ensures.job in
    read_held (jobs_of c.args.self) c.args.name c.in-Some.at o (sym c.place_of.ensures ∙ c.in-Some.is) c.index_mut.ensures.value (table_in (folder_of c.args.self)) job still c.requires.holds

pub record-requires-clause-closed : goal.record-requires-clause-closed
record-requires-clause-closed g c =
    let jobs = jobs_of c.args.self in
    let after : OpenJob JobWork = record { name = c.index_mut.result.now.name; job = c.close_work-closed.new.work } in
    let low = within_first c.args.name jobs c.in-Some.at (first_at c.args.name jobs c.in-Some.at (sym c.place_of.ensures ∙ c.in-Some.is)) in
    let long = length-set jobs c.in-Some.at after in
    omega (arith, low, long)

pub returns-in-Ok-clause-ok : goal.returns-in-Ok-clause-ok
returns-in-Ok-clause-ok g c = λ told care m stands.
    let u = g.D.Store.view c.args.store.now in
    let w = g.D.Store.view c.close_work-closed.new.store in
    let v = g.D.Store.view c.record.new.store in
    let first = g.D.Store.counts c.args.store.now in
    let then = g.D.Store.counts c.close_work-closed.new.store in
    let tells = g.D.Store.tells in
    let at = c.in-Some.at in
    let o = c.index_mut.result.now in
    let job = c.close_work-closed.new.work in
    let after : OpenJob JobWork = record { name = o.name; job = job } in
    let e = c.catalog-2.ensures ∙ stands.base.means.table_is in
    let narrows = c.in-Ok.ensures.narrows in
    let means = c.left_stores.ensures.means care c.args.store.now c.close_work-closed.new.store _ _ m.state narrows stands.base.means in
    let still = subst (λ (x : Table). (plan : PlainPlan) → work.IsJob x plan o.job → work.IsJob x plan job) e c.in-Ok.ensures.job in
    let place = sym c.place_of.ensures ∙ c.in-Some.is in
    let of = found care u c.args.self m stands c.args.name at o o after place (sym c.index_mut.ensures.value) refl still in
    let is_job = subst (λ (x : Table). work.IsJob x of.job.run.plan o.job) (sym e) of.is.is_job in
    let comes = c.in-Ok.ensures.ok told care m.state of.job.run.plan stands.base.left e of.is.read is_job in
    let reads = subst (λ (x : Table). Reads tells x u of.job.run.plan o.job job first then) e (c.in-Ok.ensures.reads of.job.run.plan is_job) in
    let within = subst (λ (x : Table). IsWithin x o.job) e c.in-Ok.ensures.within in
    let done = c.in-Ok.done in
    let t = stands.base.means.table_is in
    let dropped = those_among job.noted.items m.state.entries in
    let dropped_are = c.in-Ok.ensures.dropped ∙ ap (λ (x : Table). those_among job.noted.items x.entries) e in
    closed_result care u c.args.self m stands c.args.name at o o after place (sym c.index_mut.ensures.value) refl still tells told first then reads c.in-Ok.ensures.whole within done dropped_are comes w v
    (spans_narrowed Everything (λ image. IsSound care image m.state) _ _ narrows stands.base.means.settled) (subst IsTable (c.catalog.ensures ∙ t) c.know_table.ensures) c.job_work_stays.ensures.job c.job_work_stays.ensures.read c.record.result c.record.ensures.table
    (λ held free. subst (λ (x : Table). IfOk c.record.result (λ next. IsLater held x (table_in (folder_of next.0)))) t (c.record.ensures.later held free))
    (subst (λ (x : Table). IfOk c.record.result (λ next. IsEnded x done (Some at) (set (jobs_of c.args.self) at after) (jobs_of next.0) next.1)) t c.record.ensures.ended)
    (c.record.ensures.ok told care m.state (Some job.work.program) dropped comes.news (record { means = means; left = c.left_stores.ensures.meant care c.close_work-closed.new.store _ _ m.state means }) comes.change_is comes.files)

pub returns-in-Ok-clause-err : goal.returns-in-Ok-clause-err
returns-in-Ok-clause-err g c = λ told care m stands.
    let u = g.D.Store.view c.args.store.now in
    let w = g.D.Store.view c.close_work-closed.new.store in
    let v = g.D.Store.view c.record.new.store in
    let first = g.D.Store.counts c.args.store.now in
    let then = g.D.Store.counts c.close_work-closed.new.store in
    let tells = g.D.Store.tells in
    let at = c.in-Some.at in
    let o = c.index_mut.result.now in
    let job = c.close_work-closed.new.work in
    let after : OpenJob JobWork = record { name = o.name; job = job } in
    let e = c.catalog-2.ensures ∙ stands.base.means.table_is in
    let narrows = c.in-Ok.ensures.narrows in
    let means = c.left_stores.ensures.means care c.args.store.now c.close_work-closed.new.store _ _ m.state narrows stands.base.means in
    let still = subst (λ (x : Table). (plan : PlainPlan) → work.IsJob x plan o.job → work.IsJob x plan job) e c.in-Ok.ensures.job in
    let place = sym c.place_of.ensures ∙ c.in-Some.is in
    let of = found care u c.args.self m stands c.args.name at o o after place (sym c.index_mut.ensures.value) refl still in
    let is_job = subst (λ (x : Table). work.IsJob x of.job.run.plan o.job) (sym e) of.is.is_job in
    let comes = c.in-Ok.ensures.ok told care m.state of.job.run.plan stands.base.left e of.is.read is_job in
    let reads = subst (λ (x : Table). Reads tells x u of.job.run.plan o.job job first then) e (c.in-Ok.ensures.reads of.job.run.plan is_job) in
    let within = subst (λ (x : Table). IsWithin x o.job) e c.in-Ok.ensures.within in
    let done = c.in-Ok.done in
    let t = stands.base.means.table_is in
    let dropped = those_among job.noted.items m.state.entries in
    let dropped_are = c.in-Ok.ensures.dropped ∙ ap (λ (x : Table). those_among job.noted.items x.entries) e in
    closed_breaks care u c.args.self m stands c.args.name at o o after place (sym c.index_mut.ensures.value) refl still tells told first then reads c.in-Ok.ensures.whole within done dropped_are comes w v
    (spans_narrowed Everything (λ image. IsSound care image m.state) _ _ narrows stands.base.means.settled) (subst IsTable (c.catalog.ensures ∙ t) c.know_table.ensures) c.record.result
    (subst (λ (x : Table). OnErr c.record.result ((news : OpenJobs) × AreLeftBehind x done.dropped.items (Some at) (set (jobs_of c.args.self) at after) news)) t c.record.ensures.left)
    (c.record.ensures.err told care m.state (Some job.work.program) dropped comes.news (record { means = means; left = c.left_stores.ensures.meant care c.close_work-closed.new.store _ _ m.state means }) comes.change_is comes.files)

pub returns-in-Ok-clause-alone : goal.returns-in-Ok-clause-alone
returns-in-Ok-clause-alone g c = work_on (folder_of c.args.self) _ _ _ (work_reads (folder_of c.args.self) _ _ c.in-Ok.ensures.narrows) c.record.ensures.alone

pub returns-in-Ok-clause-gone : goal.returns-in-Ok-clause-gone
returns-in-Ok-clause-gone g c = λ told.
    closed_gone (table_in (folder_of c.args.self)) (g.D.Store.view c.record.new.store) (g.D.Store.counts c.args.store.now) (g.D.Store.counts c.close_work-closed.new.store) (g.D.Store.counts c.record.new.store) c.in-Ok.ensures.counts.removes c.record.result
    (c.record.ensures.gone told)

pub returns-in-Ok-clause-narrow : goal.returns-in-Ok-clause-narrow
returns-in-Ok-clause-narrow g c = ended_narrow c.in-Ok.done.work c.in-Ok.ensures.narrow c.record.result (ended_answers (table_in (folder_of c.args.self)) c.in-Ok.done (Some c.in-Some.at) _ c.record.result c.record.ensures.ended)

pub returns-in-Ok-clause-refused : goal.returns-in-Ok-clause-refused
returns-in-Ok-clause-refused g c = refused_since _ _ _ c.in-Ok.ensures.narrows c.record.result c.record.ensures.refused

pub returns-in-Ok-clause-taken : goal.returns-in-Ok-clause-taken
returns-in-Ok-clause-taken g c = λ told care m stands.
    let s = table m.state in
    let u = g.D.Store.view c.args.store.now in
    let first = g.D.Store.counts c.args.store.now in
    let then = g.D.Store.counts c.close_work-closed.new.store in
    let last = g.D.Store.counts c.record.new.store in
    let jobs = jobs_of c.args.self in
    let at = c.in-Some.at in
    let o = c.index_mut.result.now in
    let job = c.close_work-closed.new.work in
    let after : OpenJob JobWork = record { name = o.name; job = job } in
    let e = c.catalog-2.ensures ∙ stands.base.means.table_is in
    let place = sym c.place_of.ensures ∙ c.in-Some.is in
    let of = job_at c.args.name (IsJob m.state) (same_name m.state) m.jobs jobs at o stands.jobs (first_at c.args.name jobs at place) in
    let is = subst (IsJob m.state of.0) (sym c.index_mut.ensures.value) of.3 in
    let plan = of.0.run.plan in
    let is_job = subst (λ (x : Table). work.IsJob x plan o.job) (sym e) is.is_job in
    let comes = c.in-Ok.ensures.ok told care m.state plan stands.base.left e is.read is_job in
    let reads = subst (λ (b : Bool). Reads b s u plan o.job job first then) told (subst (λ (x : Table). Reads g.D.Store.tells x u plan o.job job first then) e (c.in-Ok.ensures.reads plan is_job)) in
    subst (λ (x : Table). IfOk c.record.result (λ next. TakesAsTold x jobs (command.Close c.args.name) next.1 first last)) (sym stands.base.means.table_is)
    (ended_taken s jobs c.args.name at o place c.index_mut.ensures.value c.in-Ok.done.work first then last
    (closed_takes s u plan o job c.in-Ok.done.work first then reads c.in-Ok.ensures.whole (reads.over refl care m.state stands.base.left refl is.read).2 comes.works.read) c.record.ensures.taken c.record.result (ended_answers (table_in (folder_of c.args.self)) c.in-Ok.done (Some c.in-Some.at) _ c.record.result c.record.ensures.ended))

pub returns-in-Ok-clause-most : goal.returns-in-Ok-clause-most
returns-in-Ok-clause-most g c = λ told.
    let jobs = jobs_of c.args.self in
    let t = table_of c.catalog-2.result.now in
    let o = c.index_mut.result.now in
    let job = c.close_work-closed.new.work in
    let u = g.D.Store.view c.args.store.now in
    let old = g.D.Store.counts c.args.store.now in
    let half = g.D.Store.counts c.close_work-closed.new.store in
    let new = g.D.Store.counts c.record.new.store in
    let place = sym c.place_of.ensures ∙ c.in-Some.is in
    let is = held_at jobs c.args.name c.in-Some.at o place c.index_mut.ensures.value t (subst (λ (x : Table). AreHeldOver x jobs) (sym c.catalog-2.ensures) c.requires.holds) in
    let reads = subst (λ (b : Bool). Reads b t u is.plan o.job job old half) told (c.in-Ok.ensures.reads is.plan is.is_job) in
    close_most jobs c.args.name c.in-Some.at o place c.index_mut.ensures.value (table_in (folder_of c.args.self)) old new
    (subst (λ (x : Table). TakesGoingOn x o.job old new) c.catalog-2.ensures (most_on t o.job old half new (reads_most t u is.plan o.job job old half reads) c.record.ensures.taken))

pub returns-in-Ok-clause-crash : goal.returns-in-Ok-clause-crash
returns-in-Ok-clause-crash g c = λ told stands. c.record.ensures.crash told (c.left_stores.ensures.stands c.args.store.now c.close_work-closed.new.store _ _ c.in-Ok.ensures.narrows stands)

pub returns-in-Ok-clause-found : goal.returns-in-Ok-clause-found
returns-in-Ok-clause-found g c = λ told. ended_found (table_in (folder_of c.args.self)) (jobs_of c.args.self) c.args.name c.in-Ok.done.work (g.D.Store.view c.args.store.now).files c.record.result (ended_answers (table_in (folder_of c.args.self)) c.in-Ok.done (Some c.in-Some.at) _ c.record.result c.record.ensures.ended)

pub returns-in-Ok-clause-fault : goal.returns-in-Ok-clause-fault
returns-in-Ok-clause-fault g c = ended_no_fault c.in-Ok.done.work _ c.record.result (ended_answers (table_in (folder_of c.args.self)) c.in-Ok.done (Some c.in-Some.at) _ c.record.result c.record.ensures.ended)

pub returns-in-Ok-clause-only_fault : goal.returns-in-Ok-clause-only_fault
returns-in-Ok-clause-only_fault g c =
    let jobs = jobs_of c.args.self in
    let o = c.index_mut.result.now in
    let is = held_at jobs c.args.name c.in-Some.at o (sym c.place_of.ensures ∙ c.in-Some.is) c.index_mut.ensures.value (table_of c.catalog-2.result.now) (subst (λ (x : Table). AreHeldOver x jobs) (sym c.catalog-2.ensures) c.requires.holds) in
    same_whatever c.record.result _ _ (c.record.ensures.reads ∙ (c.in-Ok.ensures.reads is.plan is.is_job).no_fault)

pub returns-in-Ok-clause-looks : goal.returns-in-Ok-clause-looks
returns-in-Ok-clause-looks g c =
    let jobs = jobs_of c.args.self in
    let o = c.index_mut.result.now in
    let is = held_at jobs c.args.name c.in-Some.at o (sym c.place_of.ensures ∙ c.in-Some.is) c.index_mut.ensures.value (table_of c.catalog-2.result.now) (subst (λ (x : Table). AreHeldOver x jobs) (sym c.catalog-2.ensures) c.requires.holds) in
    failed_after c.record.result _ (c.record.ensures.reads ∙ (c.in-Ok.ensures.reads is.plan is.is_job).no_fault)

-- ---- not closed

pub returns-clause-gone : goal.returns-clause-gone
returns-clause-gone g c = λ told. (let t = table_in (folder_of c.args.self) in gone_from_none t t refl (g.D.Store.view c.close_work-closed.new.store) (g.D.Store.counts c.args.store.now) (g.D.Store.counts c.close_work-closed.new.store))

pub returns-clause-alone : goal.returns-clause-alone
returns-clause-alone g c = work_reads (folder_of c.args.self) _ _ c.in-Err.ensures.narrows

pub returns-clause-holds : goal.returns-clause-holds
returns-clause-holds g c =
    let o = c.index_mut.result.now in
    let job = c.close_work-closed.new.work in
    let still = subst (λ (x : Table). (plan : PlainPlan) → work.IsJob x plan o.job → work.IsJob x plan job) c.catalog-2.ensures c.in-Err.ensures.job in
    read_held (jobs_of c.args.self) c.args.name c.in-Some.at o (sym c.place_of.ensures ∙ c.in-Some.is) c.index_mut.ensures.value (table_in (folder_of c.args.self)) job still c.requires.holds

pub returns-clause-ok : goal.returns-clause-ok
returns-clause-ok g c = λ told care m stands.
    let u = g.D.Store.view c.args.store.now in
    let w = g.D.Store.view c.close_work-closed.new.store in
    let first = g.D.Store.counts c.args.store.now in
    let then = g.D.Store.counts c.close_work-closed.new.store in
    let tells = g.D.Store.tells in
    let o = c.index_mut.result.now in
    let job = c.close_work-closed.new.work in
    let after : OpenJob JobWork = record { name = o.name; job = job } in
    let e = c.catalog-2.ensures ∙ stands.base.means.table_is in
    let narrows = c.in-Err.ensures.narrows in
    let means = c.left_stores.ensures.means care c.args.store.now c.close_work-closed.new.store _ _ m.state narrows stands.base.means in
    let still = subst (λ (x : Table). (plan : PlainPlan) → work.IsJob x plan o.job → work.IsJob x plan job) e c.in-Err.ensures.job in
    let place = sym c.place_of.ensures ∙ c.in-Some.is in
    let of = found care u c.args.self m stands c.args.name c.in-Some.at o o after place (sym c.index_mut.ensures.value) refl still in
    let is_job = subst (λ (x : Table). work.IsJob x of.job.run.plan o.job) (sym e) of.is.is_job in
    let why = c.in-Err.refusal in
    not_closed_performs care u c.args.self m stands c.args.name c.in-Some.at o o after place (sym c.index_mut.ensures.value) refl still tells told first then w _ refl
    (record { means = means; left = c.left_stores.ensures.meant care c.close_work-closed.new.store _ _ m.state means })
    (spans_narrowed Everything (IsSoundForOneOf care m.state m.state) _ _ narrows (λ image is. inl (stands.base.means.settled image is))) why
    (subst (λ (x : Table). IsNotClosed tells x u of.job.run.plan o.job job first then why) e (c.in-Err.ensures.err of.job.run.plan is_job))

pub returns-clause-found : goal.returns-clause-found
returns-clause-found g c = λ told.
    let jobs = jobs_of c.args.self in
    let t = table_of c.catalog-2.result.now in
    let view = g.D.Store.view c.args.store.now in
    let o = c.index_mut.result.now in
    let place = sym c.place_of.ensures ∙ c.in-Some.is in
    let is = held_at jobs c.args.name c.in-Some.at o place c.index_mut.ensures.value t (subst (λ (x : Table). AreHeldOver x jobs) (sym c.catalog-2.ensures) c.requires.holds) in
    close_found jobs c.args.name c.in-Some.at o place c.index_mut.ensures.value (table_in (folder_of c.args.self)) view.files c.in-Err.refusal
    (subst (λ (x : Table). IsFoundOf x o.job view.files c.in-Err.refusal) c.catalog-2.ensures
    (stopped_found g.D.Store.tells told t view is.plan o.job c.close_work-closed.new.work (g.D.Store.counts c.args.store.now) (g.D.Store.counts c.close_work-closed.new.store) c.in-Err.refusal (c.in-Err.ensures.err is.plan is.is_job)))

pub returns-clause-most : goal.returns-clause-most
returns-clause-most g c = λ told.
    let jobs = jobs_of c.args.self in
    let t = table_of c.catalog-2.result.now in
    let view = g.D.Store.view c.args.store.now in
    let o = c.index_mut.result.now in
    let old = g.D.Store.counts c.args.store.now in
    let new = g.D.Store.counts c.close_work-closed.new.store in
    let place = sym c.place_of.ensures ∙ c.in-Some.is in
    let is = held_at jobs c.args.name c.in-Some.at o place c.index_mut.ensures.value t (subst (λ (x : Table). AreHeldOver x jobs) (sym c.catalog-2.ensures) c.requires.holds) in
    close_most jobs c.args.name c.in-Some.at o place c.index_mut.ensures.value (table_in (folder_of c.args.self)) old new
    (subst (λ (x : Table). TakesGoingOn x o.job old new) c.catalog-2.ensures
    (stopped_most g.D.Store.tells told t view is.plan o.job c.close_work-closed.new.work old new c.in-Err.refusal is.is_job (c.in-Err.ensures.err is.plan is.is_job)))

pub returns-clause-fault : goal.returns-clause-fault
returns-clause-fault g c = λ fault.
    let jobs = jobs_of c.args.self in
    let t = table_of c.catalog-2.result.now in
    let o = c.index_mut.result.now in
    let is = held_at jobs c.args.name c.in-Some.at o (sym c.place_of.ensures ∙ c.in-Some.is) c.index_mut.ensures.value t (subst (λ (x : Table). AreHeldOver x jobs) (sym c.catalog-2.ensures) c.requires.holds) in
    let same : c.in-Err.refusal ≡ refusal.Fault = cc in
    not_closed_rose g.D.Store.tells t (g.D.Store.view c.args.store.now) is.plan o.job c.close_work-closed.new.work (g.D.Store.counts c.args.store.now) (g.D.Store.counts c.close_work-closed.new.store) c.in-Err.refusal (c.in-Err.ensures.err is.plan is.is_job) same

pub returns-clause-only_fault : goal.returns-clause-only_fault
returns-clause-only_fault g c = λ other.
    let jobs = jobs_of c.args.self in
    let t = table_of c.catalog-2.result.now in
    let o = c.index_mut.result.now in
    let is = held_at jobs c.args.name c.in-Some.at o (sym c.place_of.ensures ∙ c.in-Some.is) c.index_mut.ensures.value t (subst (λ (x : Table). AreHeldOver x jobs) (sym c.catalog-2.ensures) c.requires.holds) in
    not_closed_unread g.D.Store.tells t (g.D.Store.view c.args.store.now) is.plan o.job c.close_work-closed.new.work (g.D.Store.counts c.args.store.now) (g.D.Store.counts c.close_work-closed.new.store) c.in-Err.refusal (c.in-Err.ensures.err is.plan is.is_job) (λ is. other (ap answer.Refused is))

pub returns-clause-crash : goal.returns-clause-crash
returns-clause-crash g c = λ told stands. c.left_stores.ensures.stands c.args.store.now c.close_work-closed.new.store _ _ c.in-Err.ensures.narrows stands
