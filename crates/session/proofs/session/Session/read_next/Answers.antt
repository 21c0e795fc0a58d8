use Rattle.std.proofs.Common.{◌≡◌, inl, refl, sym, ap, ◌∙◌, subst, arith}
use Rattle.outside_traits.specs.Counts.{Rose}
use Rattle.outside_traits.specs.Calls.{MayRaiseReads}
use Rattle.outside_traits.specs.Runs.{Narrows}
use Rattle.outside_traits.proofs.RunLemmas.{narrows_none, spans_narrowed}
use Rattle.plan_core.specs.PlainPlan.{PlainPlan}
use Rattle.catalog_core.specs.Catalogs.{table_of}
use Rattle.catalog_core.specs.Table.{Table}
use Rattle.script_text.specs.Answer.{IsNarrow}
use Rattle.script_text.specs.declared.answer.Answer.{Answer}
use Rattle.script_text.specs.declared.answer.Answer.TheVariants as answer
use Rattle.script_text.specs.declared.answer.Refusal.TheVariants as refusal
use Rattle.script_text.specs.declared.item.Command.TheVariants as command
use Rattle.folder.specs.Folders.{table_in}
use Rattle.folder.specs.Left.{Everything, IsSoundForOneOf}
use Rattle.job_table.specs.declared.table.OpenJob.{OpenJob}
use Rattle.job_turns.specs.Jobs as work
use Rattle.job_turns.specs.declared.job.JobWork.{JobWork}
use Rattle.session.specs.Causes.{HasByteCause}
use Rattle.session.specs.Jobs.{AreHeldOver, IsJob}
use Rattle.session.specs.Standing.{Performs, folder_of, jobs_of}
use Rattle.session.specs.Taken.{TakesAsTold, TakesFor}
use Rattle.session.specs.Work.{ReadsOn, StepsOn}
use Rattle.session.specs.declared.session.Session.{Session}
use Rattle.session.proofs.FoundLemmas.{held_at, read_held, step_caused, step_rose, step_told, step_took, step_unread, unknown_found, unknown_most, steps_narrow}
use Rattle.session.proofs.JobSteps.{steps, unknown_step}
use Rattle.session.proofs.OpenLemmas.{none_since}
use Rattle.session.proofs.Places.{first_at, job_at}
use Rattle.session.proofs.session.Session.read_next.Goals as goal
use Rattle.session.proofs.session.Session.read_next.Goals.{in-Some, in-None}

pub read_file-answer-requires : goal.read_file-answer-requires
read_file-answer-requires g c =
    let jobs = jobs_of c.args.self in
    let is = held_at jobs c.args.name c.in-Some.at c.index_mut.result.now (sym c.place_of.ensures ∙ c.in-Some.is) c.index_mut.ensures.value (table_of c.catalog.result.now)
    (subst (λ (t : Table). AreHeldOver t jobs) (sym c.catalog.ensures) c.requires.holds) in
    (is.plan, is.is_job)

pub returns-clause-holds : goal.returns-clause-holds
returns-clause-holds g c =
    let t = table_in (folder_of c.args.self) in
    let jobs = jobs_of c.args.self in
    elim c.match-place_of.branch [
      | in-Some w ↦
          let still = subst (λ (x : Table). (plan : PlainPlan) → work.IsJob x plan w.index_mut.result.now.job → work.IsJob x plan w.read_file-answer.new.work) w.catalog.ensures w.read_file-answer.ensures.job in
          subst (AreHeldOver t) (sym (ap (λ j. j.jobs.items) w.jobs-is))
          (read_held jobs c.args.name w.in-Some.at w.index_mut.result.now (sym c.place_of.ensures ∙ w.in-Some.is) w.index_mut.ensures.value t w.read_file-answer.new.work still c.requires.holds)
      | in-None w ↦ subst (AreHeldOver t) (sym (ap (λ j. j.jobs.items) w.jobs-is)) c.requires.holds
    ]

pub returns-clause-base : goal.returns-clause-base
returns-clause-base g c = refl

pub returns-clause-ok : goal.returns-clause-ok
returns-clause-ok g c = λ told care m stands.
    let u = g.D.Store.view c.args.store.now in
    let s = m.state in
    let new : Session = record { base = c.args.self.base; jobs = c.match-place_of.jobs; alloc = c.args.self.alloc } in
    let first = g.D.Store.counts c.args.store.now in
    elim c.match-place_of.branch [
      | in-Some w ↦
          let v = g.D.Store.view w.read_file-answer.new.store in
          let last = g.D.Store.counts w.read_file-answer.new.store in
          let o = w.index_mut.result.now in
          let job = w.read_file-answer.new.work in
          let given = w.read_file-answer.result in
          let tells = g.D.Store.tells in
          let after : OpenJob JobWork = record { name = o.name; job = job } in
          let e = w.catalog.ensures ∙ stands.base.means.table_is in
          let narrows = w.read_file-answer.ensures.narrows in
          let means = c.left_stores.ensures.means care c.args.store.now w.read_file-answer.new.store _ _ s narrows stands.base.means in
          let still = subst (λ (x : Table). (plan : PlainPlan) → work.IsJob x plan o.job → work.IsJob x plan job) e w.read_file-answer.ensures.job in
          let goes = subst (λ (x : Table). (plan : PlainPlan) → work.IsJob x plan o.job → StepsOn tells x plan o.job job first last given) e w.read_file-answer.ensures.told in
          let reads = subst (λ (x : Table). (plan : PlainPlan) → work.IsJob x plan o.job → ReadsOn tells x u plan o.job job first last given) e w.read_file-answer.ensures.reads in
          subst (λ (store : g.row.D.Denot). Performs care u (g.D.Store.view store) new m (command.Step c.args.name) c.match-place_of.answer) (sym w.store-is)
          (subst (λ (a : Answer). Performs care u v new m (command.Step c.args.name) a) (sym w.answer-is)
          (steps care u v c.args.self new m stands (record { means = means; left = c.left_stores.ensures.meant care w.read_file-answer.new.store _ _ s means })
          (spans_narrowed Everything (IsSoundForOneOf care s s) _ _ narrows (λ image is. inl (stands.base.means.settled image is)))
          c.args.name tells told w.in-Some.at o o after (sym c.place_of.ensures ∙ w.in-Some.is) (sym w.index_mut.ensures.value) (ap (λ j. j.jobs.items) w.jobs-is) refl still first last given goes reads))
      | in-None w ↦
          subst (λ (store : g.row.D.Denot). Performs care u (g.D.Store.view store) new m (command.Step c.args.name) c.match-place_of.answer) (sym w.store-is)
          (subst (λ (a : Answer). Performs care u u new m (command.Step c.args.name) a) (sym w.answer-is)
          (unknown_step care u u c.args.self new m stands stands.base (none_since care u c.args.self m stands) c.args.name (sym c.place_of.ensures ∙ w.in-None.is) (ap (λ j. j.jobs.items) w.jobs-is)))
    ]

pub returns-clause-narrow : goal.returns-clause-narrow
returns-clause-narrow g c =
    let jobs = jobs_of c.args.self in
    elim c.match-place_of.branch [
      | in-Some w ↦
          let t = table_of w.catalog.result.now in
          let is = held_at jobs c.args.name w.in-Some.at w.index_mut.result.now (sym c.place_of.ensures ∙ w.in-Some.is) w.index_mut.ensures.value t (subst (λ (x : Table). AreHeldOver x jobs) (sym w.catalog.ensures) c.requires.holds) in
          subst IsNarrow (sym w.answer-is)
          (steps_narrow g.D.Store.tells t is.plan w.index_mut.result.now.job w.read_file-answer.new.work (g.D.Store.counts c.args.store.now) (g.D.Store.counts w.read_file-answer.new.store) w.read_file-answer.result (w.read_file-answer.ensures.told is.plan is.is_job))
      | in-None w ↦ subst IsNarrow (sym w.answer-is) tt
    ]

pub returns-clause-narrows : goal.returns-clause-narrows
returns-clause-narrows g c = elim c.match-place_of.branch [
  | in-Some w ↦ subst (λ (store : g.row.D.Denot). Narrows (g.D.Store.view c.args.store.now) (g.D.Store.view store)) (sym w.store-is) w.read_file-answer.ensures.narrows
  | in-None w ↦ subst (λ (store : g.row.D.Denot). Narrows (g.D.Store.view c.args.store.now) (g.D.Store.view store)) (sym w.store-is) (narrows_none (g.D.Store.view c.args.store.now))
]

pub returns-clause-fault : goal.returns-clause-fault
returns-clause-fault g c = λ fault.
    let jobs = jobs_of c.args.self in
    elim c.match-place_of.branch [
      | in-Some w ↦
          let t = table_of w.catalog.result.now in
          let is = held_at jobs c.args.name w.in-Some.at w.index_mut.result.now (sym c.place_of.ensures ∙ w.in-Some.is) w.index_mut.ensures.value t (subst (λ (x : Table). AreHeldOver x jobs) (sym w.catalog.ensures) c.requires.holds) in
          subst (λ (store : g.row.D.Denot). Rose (g.D.Store.counts c.args.store.now).reads (g.D.Store.counts store).reads) (sym w.store-is)
          (step_rose g.D.Store.tells t (g.D.Store.view c.args.store.now) is.plan w.index_mut.result.now.job w.read_file-answer.new.work (g.D.Store.counts c.args.store.now) (g.D.Store.counts w.read_file-answer.new.store) w.read_file-answer.result
          (w.read_file-answer.ensures.reads is.plan is.is_job) (sym w.answer-is ∙ fault))
      | in-None w ↦ let never : answer.Refused (refusal.Unknown c.args.name) ≡ answer.Refused refusal.Fault = sym w.answer-is ∙ fault in absurd (cc)
    ]

pub returns-clause-only_fault : goal.returns-clause-only_fault
returns-clause-only_fault g c = λ other.
    let jobs = jobs_of c.args.self in
    elim c.match-place_of.branch [
      | in-Some w ↦
          let t = table_of w.catalog.result.now in
          let is = held_at jobs c.args.name w.in-Some.at w.index_mut.result.now (sym c.place_of.ensures ∙ w.in-Some.is) w.index_mut.ensures.value t (subst (λ (x : Table). AreHeldOver x jobs) (sym w.catalog.ensures) c.requires.holds) in
          ap (λ (store : g.row.D.Denot). (g.D.Store.counts store).reads) w.store-is
          ∙ step_unread g.D.Store.tells t (g.D.Store.view c.args.store.now) is.plan w.index_mut.result.now.job w.read_file-answer.new.work (g.D.Store.counts c.args.store.now) (g.D.Store.counts w.read_file-answer.new.store) w.read_file-answer.result
          (w.read_file-answer.ensures.reads is.plan is.is_job) (λ fault. other (w.answer-is ∙ fault))
      | in-None w ↦ ap (λ (store : g.row.D.Denot). (g.D.Store.counts store).reads) w.store-is
    ]

pub returns-clause-found : goal.returns-clause-found
returns-clause-found g c = λ told.
    let t = table_in (folder_of c.args.self) in
    let jobs = jobs_of c.args.self in
    let view = g.D.Store.view c.args.store.now in
    elim c.match-place_of.branch [
      | in-Some w ↦
          let o = w.index_mut.result.now in
          let u = table_of w.catalog.result.now in
          let place = sym c.place_of.ensures ∙ w.in-Some.is in
          let is = held_at jobs c.args.name w.in-Some.at o place w.index_mut.ensures.value u (subst (λ (x : Table). AreHeldOver x jobs) (sym w.catalog.ensures) c.requires.holds) in
          subst (λ (a : Answer). HasByteCause t jobs (command.Step c.args.name) view.files a) (sym w.answer-is)
          (subst (λ (x : Table). HasByteCause x jobs (command.Step c.args.name) view.files w.read_file-answer.result) w.catalog.ensures
          (step_caused jobs c.args.name w.in-Some.at o place w.index_mut.ensures.value g.D.Store.tells told u view is.plan w.read_file-answer.new.work (g.D.Store.counts c.args.store.now) (g.D.Store.counts w.read_file-answer.new.store) w.read_file-answer.result
          (w.read_file-answer.ensures.reads is.plan is.is_job)))
      | in-None w ↦
          subst (λ (a : Answer). HasByteCause t jobs (command.Step c.args.name) view.files a) (sym w.answer-is) (unknown_found jobs c.args.name (sym c.place_of.ensures ∙ w.in-None.is) t view.files)
    ]

pub returns-clause-taken : goal.returns-clause-taken
returns-clause-taken g c = λ told care m stands.
    let t = table_in (folder_of c.args.self) in
    let jobs = jobs_of c.args.self in
    let old = g.D.Store.counts c.args.store.now in
    let view = g.D.Store.view c.args.store.now in
    elim c.match-place_of.branch [
      | in-Some w ↦
          let o = w.index_mut.result.now in
          let u = table_of w.catalog.result.now in
          let at = w.in-Some.at in
          let new = g.D.Store.counts w.read_file-answer.new.store in
          let place = sym c.place_of.ensures ∙ w.in-Some.is in
          let e = w.catalog.ensures ∙ stands.base.means.table_is in
          let found = job_at c.args.name (IsJob m.state) (λ job x is. is.name) m.jobs jobs at o stands.jobs (first_at c.args.name jobs at place) in
          let is = subst (IsJob m.state found.0) (sym w.index_mut.ensures.value) found.3 in
          let plan = found.0.run.plan in
          let is_job = subst (λ (x : Table). work.IsJob x plan o.job) (sym e) is.is_job in
          subst (λ (store : g.row.D.Denot). TakesAsTold t jobs (command.Step c.args.name) c.match-place_of.answer old (g.D.Store.counts store)) (sym w.store-is)
          (subst (λ (a : Answer). TakesAsTold t jobs (command.Step c.args.name) a old new) (sym w.answer-is)
          (subst (λ (x : Table). TakesAsTold x jobs (command.Step c.args.name) w.read_file-answer.result old new) w.catalog.ensures
          (step_told jobs c.args.name at o place w.index_mut.ensures.value g.D.Store.tells told u view plan w.read_file-answer.new.work old new is_job care m.state stands.base.left e is.read w.read_file-answer.result
          (w.read_file-answer.ensures.told plan is_job) (w.read_file-answer.ensures.reads plan is_job))))
      | in-None w ↦ subst (λ (a : Answer). TakesAsTold t jobs (command.Step c.args.name) a old (g.D.Store.counts c.match-place_of.store)) (sym w.answer-is) tt
    ]

pub returns-clause-most : goal.returns-clause-most
returns-clause-most g c = λ told.
    let t = table_in (folder_of c.args.self) in
    let jobs = jobs_of c.args.self in
    let old = g.D.Store.counts c.args.store.now in
    elim c.match-place_of.branch [
      | in-Some w ↦
          let o = w.index_mut.result.now in
          let u = table_of w.catalog.result.now in
          let new = g.D.Store.counts w.read_file-answer.new.store in
          let place = sym c.place_of.ensures ∙ w.in-Some.is in
          let is = held_at jobs c.args.name w.in-Some.at o place w.index_mut.ensures.value u (subst (λ (x : Table). AreHeldOver x jobs) (sym w.catalog.ensures) c.requires.holds) in
          subst (λ (store : g.row.D.Denot). TakesFor t jobs (command.Step c.args.name) old (g.D.Store.counts store)) (sym w.store-is)
          (subst (λ (x : Table). TakesFor x jobs (command.Step c.args.name) old new) w.catalog.ensures
          (step_took jobs c.args.name w.in-Some.at o place w.index_mut.ensures.value g.D.Store.tells told u (g.D.Store.view c.args.store.now) is.plan w.read_file-answer.new.work old new w.read_file-answer.result (w.read_file-answer.ensures.reads is.plan is.is_job)))
      | in-None w ↦
          subst (λ (store : g.row.D.Denot). TakesFor t jobs (command.Step c.args.name) old (g.D.Store.counts store)) (sym w.store-is) (unknown_most jobs c.args.name (sym c.place_of.ensures ∙ w.in-None.is) t old)
    ]

pub returns-clause-counts : goal.returns-clause-counts
returns-clause-counts g c =
    let old = g.D.Store.counts c.args.store.now in
    elim c.match-place_of.branch [
      | in-Some w ↦ subst (λ (store : g.row.D.Denot). MayRaiseReads old (g.D.Store.counts store)) (sym w.store-is) w.read_file-answer.ensures.counts
      | in-None w ↦ subst (λ (store : g.row.D.Denot). MayRaiseReads old (g.D.Store.counts store)) (sym w.store-is) (record { reads = omega arith; writes = refl; removes = refl; taken = omega arith })
    ]
