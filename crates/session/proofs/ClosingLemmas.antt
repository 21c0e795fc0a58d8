-- A job that is closed, or isn't.
use Rattle.std.proofs.Common.{◌≡◌, inl, inr, refl, sym, ap, ◌∙◌, subst, ℕ, Bool, true, List, [], ◌∷◌, Some, Result, Ok, Err, IfOk, OnErr, get_or}
use Rattle.std.proofs.Math.ListN.{set}
use Rattle.std.specs.Bool.{IsTrue}
use Rattle.std.specs.List.{AllByRecursion, remove}
use Rattle.outside_traits.specs.View.{View, Counts}
use Rattle.outside_traits.specs.declared.failed.Failed.{Failed}
use Rattle.plan_core.specs.PlainPlan.{PlainPlan}
use Rattle.catalog_types.specs.declared.program.Program.{Program}
use Rattle.catalog_core.specs.IsTable.{IsTable}
use Rattle.executor.specs.declared.refusal.RunRefusal.{RunRefusal}
use Rattle.executor.specs.declared.refusal.RunRefusal.TheVariants as run
use Rattle.planning.specs.Running.{Run, storing}
use Rattle.script_text.specs.declared.answer.Answer.{Answer}
use Rattle.script_text.specs.declared.answer.Answer.TheVariants as answer
use Rattle.script_text.specs.declared.answer.Refusal.{Refusal}
use Rattle.script_text.specs.declared.answer.Refusal.TheVariants as refusal
use Rattle.script_text.specs.declared.item.Command.TheVariants as command
use Rattle.folder.specs.Folders.{table_in}
use Rattle.folder.specs.Left.{Since, StaysSound}
use Rattle.folder.specs.Sound.{Care}
use Rattle.folder.specs.State.{State, table}
use Rattle.folder_session.specs.Machine.{IsFileEvent, IsOfExtent}
use Rattle.folder_session.specs.Standing as folder
use Rattle.folder_session.specs.WorkRefusals.{refusal_of}
use Rattle.folder_session.specs.Working.{answer_of}
use Rattle.folder_session.proofs.StepLemmas.{breaks_behind, records_behind}
use Rattle.row_blob.specs.Kept.{AreEach}
use Rattle.job_table.specs.Jobs.{place_of}
use Rattle.job_table.specs.declared.table.OpenJob.{OpenJob}
use Rattle.later_states.specs.Later.{AreFree, IsLater}
use Rattle.later_states.proofs.States.{same-rows}
use Rattle.work_run.specs.Ends.{CountsRead, IsRefusedWork}
use Rattle.work_run.specs.Opened.{HasRead, files_left}
use Rattle.work_run.specs.Working.{Overflows, IsDear}
use Rattle.work_turns.specs.Ends.{those_among}
use Rattle.work_turns.specs.declared.work.WorkInTurns.{WorkInTurns}
use Rattle.work_turns.specs.Turns.{IsLost}
use Rattle.job_turns.specs.Ends.{ComesAtLast, IsReadFor}
use Rattle.job_turns.specs.Jobs as work
use Rattle.job_turns.specs.Turns.{GoesOn, Reads}
use Rattle.job_turns.specs.declared.job.JobWork.{JobWork}
use Rattle.session.specs.Jobs.{OpenJobs, AreLeft, AreLeftBehind, IsJob, IsLeft, AreJobs, held_of}
use Rattle.session.specs.Machine.{Machine, Step, ReadsWhole, gone_between, job_named, put_for, with_jobs}
use Rattle.session.specs.MachineJob.{Job}
use Rattle.session.specs.MachineJob as machine
use Rattle.session.specs.Standing.{Stands, Performs, Breaks, folder_of, jobs_of}
use Rattle.session.specs.Work.{IsNotClosed, IsStopped, IsWithin, IsEnded, IsRecorded}
use Rattle.session.specs.declared.session.Session.{Session}
use Rattle.session.proofs.CloseLemmas.{closed_step, dear_step, event_step, limit_step, overflow_step, removed_same, same_run, state_after}
use Rattle.session.proofs.GoneLemmas.{gone_by_work}
use Rattle.session.proofs.GoingLemmas.{now, now_goes, now_is, now_whole}
use Rattle.session.proofs.JobSteps.{same_at, same_name, same_whole}
use Rattle.session.proofs.Places.{first_at, gone_at, job_at, put_at}
use Rattle.session.proofs.ReadLemmas.{read_none}
use Rattle.session.proofs.LeavingJobs.{LeftJobs, behind_free, both_but, jobs_over, left_jobs, still_left}
use Rattle.session.proofs.StayLemmas.{StaysOpen, StaysRead}

module _ (care : Care) (u : View) (session : Session) (m : Machine) (stands : Stands care u session m) (name : List ℕ) (at : ℕ) (d o new : OpenJob JobWork) (place : place_of (jobs_of session) name ≡ Some at) (stood : get_or (jobs_of session) at d ≡ o)
    (names : new.name ≡ o.name) (still : (plan : PlainPlan) → work.IsJob (table m.state) plan o.job → work.IsJob (table m.state) plan new.job) where
  -- the machine's job of the name
  pub record Found : Type 0 where
    pub job : Job
    pub named : job_named m.jobs name ≡ Some job
    pub is : IsJob m.state job o

  pub found : Found
  found =
      let of = job_at name (IsJob m.state) (same_name m.state) m.jobs (jobs_of session) at d stands.jobs (first_at name (jobs_of session) at place) in
      record { job = of.0; named = of.1; is = subst (IsJob m.state of.0) stood of.3 }

  abbrev pub plan_found : PlainPlan
  plan_found = found.job.run.plan

  pub still_found : work.IsJob (table m.state) plan_found new.job
  still_found = still plan_found found.is.is_job

  -- no limit is passed
  pub within_found : IsWithin (table m.state) o.job → storing (table m.state) found.job.run ≡ Ok found.job.run
  within_found within = subst (λ (r : Run). storing (table m.state) r ≡ Ok r) (same_run m.state found.job o found.is) (within plan_found)

  -- the jobs, with it in its place
  abbrev now_open : OpenJobs
  now_open = set (jobs_of session) at new

  put : (job : Job) → IsJob m.state job new → AreJobs m.state (put_for name (job ∷ []) m.jobs) now_open
  put job is = put_at name (IsJob m.state) (same_name m.state) m.jobs (jobs_of session) at job new stands.jobs (first_at name (jobs_of session) at place) is

  -- what the refusal leaves, and the step
  record Refuses (why : Refusal) : Type 0 where
    jobs : List Job
    are : AreJobs m.state jobs now_open
    step : Step care m (command.Close name) (answer.Refused why) (with_jobs m jobs)

  -- ---- it went on so

  module _ (read : HasRead m.state new.job.work) (on : GoesOn true (table m.state) plan_found o.job new.job) (lost : AllByRecursion (IsLost care m.state) on.ids) where
    abbrev pub last : Job
    last = now m.state found.job o new found.is names still_found read on

    pub shown : machine.GoesOn care m.state found.job last
    shown = now_goes m.state found.job o new found.is names still_found read on care lost

    pub is_last : IsJob m.state last new
    is_last = now_is m.state found.job o new found.is names still_found read on

    leaves : (why : Refusal) → Step care m (command.Close name) (answer.Refused why) (with_jobs m (put_for name (last ∷ []) m.jobs)) → Refuses why
    leaves why step = record { jobs = put_for name (last ∷ []) m.jobs; are = put last is_last; step = step }

    by_event : (why : Refusal) → IsFileEvent care m.state why → IsOfExtent (table m.state) why → Refuses why
    by_event why event extent = leaves why (event_step care m name found.job found.named last why event extent shown)

    pub whole : files_left new.job.work ≡ [] → ReadsWhole care m.state found.job last
    whole none = record { goes = shown; whole = now_whole m.state found.job o new found.is names still_found read on none }

    -- the cuts are those of the machine's job
    at_cuts : (P : Program → Type 0) → P o.job.work.program → P found.job.run.program
    at_cuts P is = subst P found.is.program is

    by_met : (met : RunRefusal) → IsWithin (table m.state) o.job → IsOfExtent (table m.state) (refusal_of met) → IsRefusedWork care m.state plan_found o.job.work.program.cuts met → IsReadFor new.job.work met → Refuses (refusal_of met)
    by_met run.Overflow within extent is all = leaves refusal.Overflow (overflow_step care m name found.job found.named last (whole all) (within_found within) (at_cuts (λ p. Overflows m.state plan_found p.cuts) is))
    by_met run.Machine within extent is all = leaves _ (dear_step care m name found.job found.named last (whole all) (within_found within) (at_cuts (λ p. IsDear m.state plan_found p.cuts) is))
    by_met run.Fault within extent is all = by_event refusal.Fault tt tt
    by_met (run.Damaged file kept told taken) within extent is all = by_event (refusal.Damaged file kept told) is extent
    by_met (run.Unreadable file spot taken) within extent is all = absurd is
    by_met run.Memory within extent is all = by_event refusal.Memory tt tt

  -- ---- a limit is passed

  stays_job : new.job ≡ o.job → (job : Job) → IsJob m.state job o → IsJob m.state job new
  stays_job same job is =
      read_none m.state job o new is names (same_whole o.job new.job same) (still job.run.plan is.is_job) (subst (λ (j : JobWork). HasRead m.state j.work) (sym same) is.read) (ap (λ (j : JobWork). files_left j.work) same)

  by_limit : (why : Refusal) → storing (table m.state) found.job.run ≡ Err why → new.job ≡ o.job → Refuses why
  by_limit why passed same = record {
    jobs = m.jobs;
    are = same_at (IsJob m.state) m.jobs (jobs_of session) at d new stands.jobs (λ j is_j. stays_job same j (subst (IsJob m.state j) stood is_j));
    step = limit_step care m name found.job found.named why passed;
  }

  -- ---- it isn't closed

  module _ (tells : Bool) (told : IsTrue tells) (first then : Counts) where
    stopped : (why : Refusal) → IsStopped true (table m.state) u plan_found o.job new.job first then why → Refuses why
    stopped why is =
        let over = is.halts.over refl care m.state stands.base.left refl found.is.read in
        subst Refuses (sym is.why_is) (by_met over.0 is.halts.on over.1 is.met is.within (subst (IsOfExtent (table m.state)) is.why_is is.of_extent) over.2 is.whole)

    refuses : (why : Refusal) → IsNotClosed tells (table m.state) u plan_found o.job new.job first then why → Refuses why
    refuses why (inl over) =
        let passed = subst (λ (r : Run). storing (table m.state) r ≡ Err (refusal.Limit over.kind)) (same_run m.state found.job o found.is) (over.over plan_found) in
        by_limit why (passed ∙ ap Err (sym over.why_is)) over.same
    refuses why (inr is) = stopped why (subst (λ (b : Bool). IsStopped b (table m.state) u plan_found o.job new.job first then why) told is)

    pub not_closed_performs : (w : View) (session' : Session) → jobs_of session' ≡ now_open → folder.Stands care w session'.base m.state → Since care m.state m.state u w → (why : Refusal)
        → IsNotClosed tells (table m.state) u plan_found o.job new.job first then why → Performs care u w session' m (command.Close name) (answer.Refused why)
    not_closed_performs w session' are base since why is =
        let r = refuses why is in
        record { new = with_jobs m r.jobs; step = r.step; stands = record { base = base; jobs = subst (AreJobs m.state r.jobs) (sym are) r.are }; since = since }

    -- ---- its work is recorded, or isn't

    module _ (reads : Reads tells (table m.state) u plan_found o.job new.job first then) (none : files_left new.job.work ≡ []) (within : IsWithin (table m.state) o.job) (done : WorkInTurns) (dropped_are : done.dropped.items ≡ those_among new.job.noted.items m.state.entries)
        (comes : ComesAtLast m.state plan_found new.job done.work) (w v : View) (before : StaysSound care m.state u w) (is_table : IsTable (table m.state)) where
      pub reads_told : Reads true (table m.state) u plan_found o.job new.job first then
      reads_told = subst (λ (b : Bool). Reads b (table m.state) u plan_found o.job new.job first then) told reads

      pub over : HasRead m.state new.job.work × AllByRecursion (IsLost care m.state) reads_told.on.ids × CountsRead reads_told.on.passed first then
      over = reads_told.over refl care m.state stands.base.left refl found.is.read

      abbrev dropped : List ℕ
      dropped = done.dropped.items

      abbrev others : List Job
      others = put_for name [] m.jobs

      abbrev pub after : State
      after = state_after care m name found.job found.named (last over.0 reads_told.on over.1) (whole over.0 reads_told.on over.1 none) (within_found within) new (is_last over.0 reads_told.on over.1) done.work comes

      gone_are : gone_between m.state after ≡ dropped
      gone_are = gone_by_work m.state is_table (Some new.job.work.program) done.work.used.items (those_among new.job.noted.items m.state.entries) new.job.noted.items comes.news refl ∙ sym dropped_are

      module _ (news : OpenJobs) (behind : AreLeftBehind (table m.state) dropped (Some at) now_open news) where
        -- the other jobs, as they are left
        left : LeftJobs m.state dropped others news
        left =
            subst (LeftJobs m.state dropped others) (sym behind.stand)
            (left_jobs m.state dropped others (remove (jobs_of session) at) (remove behind.left at) (gone_at name (IsJob m.state) (same_name m.state) m.jobs (jobs_of session) at stands.jobs (first_at name (jobs_of session) at place))
            (subst (λ (olds : OpenJobs). AreLeft (table m.state) dropped olds (remove behind.left at)) (removed_same (jobs_of session) at new) (both_but (IsLeft (table m.state) dropped) now_open behind.left at behind.are)))

        abbrev closed_machine : Machine
        closed_machine = record { state = after; jobs = left.nexts }

        answers : Step care m (command.Close name) (answer_of done.work) closed_machine
        answers =
            closed_step care m name found.job found.named (last over.0 reads_told.on over.1) (whole over.0 reads_told.on over.1 none) (within_found within) new (is_last over.0 reads_told.on over.1) done.work comes left.nexts
            (subst (λ (ids : List ℕ). AreEach (machine.IsLeft m.state ids) others left.nexts) (sym gone_are) left.left)

        -- what they hold isn't dropped
        free : AreFree (held_of news) dropped
        free = behind_free (table m.state) dropped now_open (jobs_over m.state (put_for name (last over.0 reads_told.on over.1 ∷ []) m.jobs) now_open (put (last over.0 reads_told.on over.1) (is_last over.0 reads_told.on over.1))) (Some at) news behind

        breaks : folder.KeepsNot care u v m.state after → Breaks care u v m (command.Close name)
        breaks broke = record { answer = answer_of done.work; new = closed_machine; step = answers; recorded = broke.recorded; since = broke.since; left = broke.left }

        stand : StaysOpen → StaysRead → IsTable (table after) → ((held : List ℕ) → AreFree held dropped → IsLater held (table m.state) (table after)) → AreJobs after left.nexts news
        stand open_stays read_stays is_next later = still_left m.state dropped open_stays read_stays is_table after is_next (same-rows m.state.streams) later others news left free

      pub closed_performs : StaysOpen → StaysRead → (session' : Session) → IsTable (table_in (folder_of session')) → ((held : List ℕ) → AreFree held dropped → IsLater held (table m.state) (table_in (folder_of session')))
          → (given : Answer) → IsEnded (table m.state) done (Some at) now_open (jobs_of session') given → IsRecorded care w v session'.base m.state after given → Performs care u v session' m (command.Close name) given
      closed_performs open_stays read_stays session' is_next later given (inl is) recorded =
          let is_recorded : folder.Records care w v session'.base m.state after = subst (λ (a : Answer). IsRecorded care w v session'.base m.state after a) is.0 recorded in
          let kept = records_behind care u w v m.state after before (Ok (session'.base, given)) is_recorded in
          let end = is_recorded.stands.means.table_is in
          record {
            new = closed_machine (jobs_of session') is.1;
            step = subst (λ (a : Answer). Step care m (command.Close name) a (closed_machine (jobs_of session') is.1)) (sym is.0) (answers (jobs_of session') is.1);
            stands = record {
              base = is_recorded.stands;
              jobs = stand (jobs_of session') is.1 open_stays read_stays (subst IsTable end is_next) (λ held free. subst (IsLater held (table m.state)) end (later held free));
            };
            since = kept.since;
          }
      closed_performs open_stays read_stays session' is_next later given (inr is) recorded =
          let r = by_event over.0 reads_told.on over.1 refusal.Memory tt tt in
          let is_recorded : folder.Records care w v session'.base m.state m.state = subst (λ (a : Answer). IsRecorded care w v session'.base m.state after a) is.0 recorded in
          let kept = records_behind care u w v m.state m.state before (Ok (session'.base, given)) is_recorded in
          record {
            new = with_jobs m r.jobs;
            step = subst (λ (a : Answer). Step care m (command.Close name) a (with_jobs m r.jobs)) (sym is.0) r.step;
            stands = record { base = is_recorded.stands; jobs = subst (AreJobs m.state r.jobs) (sym is.1) r.are };
            since = kept.since;
          }

      pub closed_breaks : (result : Result (Session × Answer) Failed) → OnErr result ((news : OpenJobs) × AreLeftBehind (table m.state) dropped (Some at) now_open news) → OnErr result (folder.KeepsNot care w v m.state after) → OnErr result (Breaks care u v m (command.Close name))
      closed_breaks (Ok next) behind broke = tt
      closed_breaks (Err failed) behind broke = breaks behind.0 behind.1 (breaks_behind care u w v m.state after before (Err failed) broke)

      pub closed_result : StaysOpen → StaysRead → (result : Result (Session × Answer) Failed) → IfOk result (λ next. IsTable (table_in (folder_of next.0)))
          → ((held : List ℕ) → AreFree held dropped → IfOk result (λ next. IsLater held (table m.state) (table_in (folder_of next.0)))) → IfOk result (λ next. IsEnded (table m.state) done (Some at) now_open (jobs_of next.0) next.1)
          → IfOk result (λ next. IsRecorded care w v next.0.base m.state after next.1) → IfOk result (λ next. Performs care u v next.0 m (command.Close name) next.1)
      closed_result open_stays read_stays (Ok next) is_next later is recorded = closed_performs open_stays read_stays next.0 is_next later next.1 is recorded
      closed_result open_stays read_stays (Err failed) is_next later is recorded = tt
