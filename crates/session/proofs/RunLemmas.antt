-- A run or a fetch, as a step of the machine with jobs.
use Rattle.std.proofs.Common.{◌≡◌, inl, inr, sym, subst, ℕ, List, None, Result, Ok, Err, IfOk, OnErr}
use Rattle.outside_traits.specs.View.{View, Counts}
use Rattle.outside_traits.specs.declared.failed.Failed.{Failed}
use Rattle.row_blob.specs.Kept.{AreEach}
use Rattle.catalog_core.specs.IsTable.{IsTable}
use Rattle.catalog_core.specs.Table.{Table}
use Rattle.folder.specs.Folders.{table_in}
use Rattle.folder.specs.Left.{Since, StaysSound}
use Rattle.folder.specs.Next.{with_work}
use Rattle.folder.specs.Sound.{Care}
use Rattle.folder.specs.State.{State, table}
use Rattle.folder_session.specs.Causes as of_folder
use Rattle.folder_session.specs.Machine as folder_machine
use Rattle.folder_session.specs.Machine.{IsWork}
use Rattle.folder_session.specs.Standing as folder
use Rattle.folder_session.specs.Taken as taken
use Rattle.folder_session.specs.Working.{IsPlannedOver, IsWorkedOff, answer_of}
use Rattle.folder_session.proofs.RefusalLemmas.{want_causes}
use Rattle.folder_session.proofs.StepLemmas.{breaks_behind, records_behind, want_event}
use Rattle.later_states.specs.Later.{AreFree, IsLater}
use Rattle.later_states.proofs.States.{same-rows}
use Rattle.script_text.specs.declared.answer.Answer.{Answer}
use Rattle.script_text.specs.declared.answer.Answer.TheVariants as answer
use Rattle.script_text.specs.declared.answer.Refusal.{Refusal}
use Rattle.script_text.specs.declared.answer.Refusal.TheVariants as refusal
use Rattle.script_text.specs.declared.item.Command.{Command}
use Rattle.script_text.specs.declared.item.Command.TheVariants as command
use Rattle.work_run.specs.Ends.{CountsRead}
use Rattle.work_run.specs.declared.work.Work.{Work}
use Rattle.work_turns.specs.declared.work.WorkInTurns.{WorkInTurns}
use Rattle.session.specs.Causes.{HasByteCause}
use Rattle.session.specs.Jobs.{OpenJobs, AreJobs, AreLeftBehind}
use Rattle.session.specs.Machine.{Machine, Step, gone_between, held_by}
use Rattle.session.specs.MachineJob as machine
use Rattle.session.specs.Standing.{Stands, Performs, Breaks, folder_of, jobs_of}
use Rattle.session.specs.Taken.{TakesAsTold, TakesFor}
use Rattle.session.specs.Work.{IsEnded, IsRecorded}
use Rattle.session.specs.declared.session.Session.{Session}
use Rattle.session.proofs.EndedLemmas.{IsAnsweredBy}
use Rattle.session.proofs.FolderSteps.{work_event, work_refused, working}
use Rattle.session.proofs.GoneLemmas.{gone_by_work}
use Rattle.session.proofs.LeavingJobs.{LeftJobs, behind_free, jobs_over, left_jobs, still_left}
use Rattle.session.proofs.StayLemmas.{StaysOpen, StaysRead}

-- ---- it is worked off and recorded

module _ (care : Care) (u w v : View) (session : Session) (m : Machine) (stands : Stands care u session m) (c : Command) (is_work : IsWork c) (is_table : IsTable (table m.state)) (done : WorkInTurns) (planned : IsPlannedOver (table m.state) done)
    (worked : IsWorkedOff care m.state c done) (before : StaysSound care m.state u w) where
  abbrev dropped : List ℕ
  dropped = done.dropped.items

  abbrev pub after : State
  after = with_work m.state worked.program done.work.used.items dropped worked.news

  gone_are : gone_between m.state after ≡ dropped
  gone_are = gone_by_work m.state is_table worked.program done.work.used.items dropped planned.lost worked.news planned.dropped

  module _ (news : OpenJobs) (behind : AreLeftBehind (table m.state) dropped None (jobs_of session) news) where
    -- the jobs, as they are left
    left : LeftJobs m.state dropped m.jobs news
    left = subst (LeftJobs m.state dropped m.jobs) (sym behind.stand) (left_jobs m.state dropped m.jobs (jobs_of session) behind.left stands.jobs behind.are)

    abbrev worked_machine : Machine
    worked_machine = record { state = after; jobs = left.nexts }

    answers : Step care m c (answer_of done.work) worked_machine
    answers = inl (working care m after c (answer_of done.work) left.nexts is_work (subst (λ (ids : List ℕ). AreEach (machine.IsLeft m.state ids) m.jobs left.nexts) (sym gone_are) left.left) (worked.performs (held_by m.jobs)))

    breaks : folder.KeepsNot care u v m.state after → Breaks care u v m c
    breaks broke = record { answer = answer_of done.work; new = worked_machine; step = answers; recorded = broke.recorded; since = broke.since; left = broke.left }

    stand : StaysOpen → StaysRead → IsTable (table after) → ((held : List ℕ) → AreFree held dropped → IsLater held (table m.state) (table after)) → AreJobs after left.nexts news
    stand open_stays read_stays is_next later =
        still_left m.state dropped open_stays read_stays is_table after is_next (same-rows m.state.streams) later m.jobs news left (behind_free (table m.state) dropped (jobs_of session) (jobs_over m.state m.jobs (jobs_of session) stands.jobs) None news behind)

  worked_performs : StaysOpen → StaysRead → (session' : Session) → IsTable (table_in (folder_of session')) → ((held : List ℕ) → AreFree held dropped → IsLater held (table m.state) (table_in (folder_of session'))) → (given : Answer)
      → IsEnded (table m.state) done None (jobs_of session) (jobs_of session') given → IsRecorded care w v session'.base m.state after given → Performs care u v session' m c given
  worked_performs open_stays read_stays session' is_next later given (inl is) recorded =
      let is_recorded : folder.Records care w v session'.base m.state after = subst (λ (a : Answer). IsRecorded care w v session'.base m.state after a) is.0 recorded in
      let kept = records_behind care u w v m.state after before (Ok (session'.base, given)) is_recorded in
      let end = is_recorded.stands.means.table_is in
      record {
        new = worked_machine (jobs_of session') is.1;
        step = subst (λ (a : Answer). Step care m c a (worked_machine (jobs_of session') is.1)) (sym is.0) (answers (jobs_of session') is.1);
        stands = record {
          base = is_recorded.stands;
          jobs = stand (jobs_of session') is.1 open_stays read_stays (subst IsTable end is_next) (λ held free. subst (IsLater held (table m.state)) end (later held free));
        };
        since = kept.since;
      }
  worked_performs open_stays read_stays session' is_next later given (inr is) recorded =
      let is_recorded : folder.Records care w v session'.base m.state m.state = subst (λ (a : Answer). IsRecorded care w v session'.base m.state after a) is.0 recorded in
      let kept = records_behind care u w v m.state m.state before (Ok (session'.base, given)) is_recorded in
      record {
        new = m;
        step = subst (λ (a : Answer). Step care m c a m) (sym is.0) (work_event care m c is_work refusal.Memory (want_event care m.state c));
        stands = record { base = is_recorded.stands; jobs = subst (AreJobs m.state m.jobs) (sym is.1) stands.jobs };
        since = kept.since;
      }

  pub worked_result : StaysOpen → StaysRead → (result : Result (Session × Answer) Failed) → IfOk result (λ next. IsTable (table_in (folder_of next.0)))
      → ((held : List ℕ) → AreFree held dropped → IfOk result (λ next. IsLater held (table m.state) (table_in (folder_of next.0)))) → IfOk result (λ next. IsEnded (table m.state) done None (jobs_of session) (jobs_of next.0) next.1)
      → IfOk result (λ next. IsRecorded care w v next.0.base m.state after next.1) → IfOk result (λ next. Performs care u v next.0 m c next.1)
  worked_result open_stays read_stays (Ok next) is_next later is recorded = worked_performs open_stays read_stays next.0 is_next later next.1 is recorded
  worked_result open_stays read_stays (Err failed) is_next later is recorded = tt

  pub worked_breaks : (result : Result (Session × Answer) Failed) → OnErr result ((news : OpenJobs) × AreLeftBehind (table m.state) dropped None (jobs_of session) news) → OnErr result (folder.KeepsNot care w v m.state after) → OnErr result (Breaks care u v m c)
  worked_breaks (Ok next) behind broke = tt
  worked_breaks (Err failed) behind broke = breaks behind.0 behind.1 (breaks_behind care u w v m.state after before (Err failed) broke)

-- ---- it isn't

pub refuses_work : (care : Care) (u w : View) (session : Session) (m : Machine) → folder.Stands care w session.base m.state → AreJobs m.state m.jobs (jobs_of session) → Since care m.state m.state u w → (c : Command) → IsWork c → (why : Refusal)
    → folder_machine.Step care (held_by m.jobs) m.state c (answer.Refused why) m.state → Performs care u w session m c (answer.Refused why)
refuses_work care u w session m base jobs since c is_work why step = record { new = m; step = work_refused care m c is_work why step; stands = record { base = base; jobs = jobs }; since = since }

-- ---- what else is said of it

pub found_at_work : (t : Table) (jobs : OpenJobs) (c : Command) (files : ℕ → List ℕ) (given : Answer) → IsWork c → of_folder.HasByteCause t c files given → HasByteCause t jobs c files given
found_at_work t jobs (command.Run name tree) files given is found = found
found_at_work t jobs (command.Fetch name as_run) files given is found = found
found_at_work t jobs _ files given is found = absurd is

-- the answer of work is laid to no file, nor is want of memory
given_cause : (t : Table) (jobs : OpenJobs) (c : Command) (files : ℕ → List ℕ) (closed : Work) → IsWork c → HasByteCause t jobs c files (answer_of closed)
given_cause t jobs (command.Run name tree) files closed is = tt
given_cause t jobs (command.Fetch name as_run) files closed is = tt
given_cause t jobs _ files closed is = absurd is

pub worked_found : (t : Table) (jobs : OpenJobs) (c : Command) (files : ℕ → List ℕ) (closed : Work) → IsWork c → (result : Result (Session × Answer) Failed) → IfOk result (λ next. IsAnsweredBy closed next.1) → IfOk result (λ next. HasByteCause t jobs c files next.1)
worked_found t jobs c files closed is (Ok next) answered =
    elim answered [
      | inl same ↦ subst (HasByteCause t jobs c files) (sym same) (given_cause t jobs c files closed is)
      | inr same ↦ subst (HasByteCause t jobs c files) (sym same) (found_at_work t jobs c files (answer.Refused refusal.Memory) is (want_causes t files c))
    ]
worked_found t jobs c files closed is (Err failed) answered = tt

pub most_at_work : (t : Table) (jobs : OpenJobs) (c : Command) (old new : Counts) → IsWork c → taken.TakesFor t c old new → TakesFor t jobs c old new
most_at_work t jobs (command.Run name tree) old new is most = most
most_at_work t jobs (command.Fetch name as_run) old new is most = most
most_at_work t jobs _ old new is most = absurd is

-- it has taken as many bytes as it tells
takes_at_work : (t : Table) (jobs : OpenJobs) (c : Command) (given : Answer) (old new : Counts) → IsWork c → taken.TakesAsTold given old new → TakesAsTold t jobs c given old new
takes_at_work t jobs (command.Run name tree) given old new is takes = takes
takes_at_work t jobs (command.Fetch name as_run) given old new is takes = takes
takes_at_work t jobs _ given old new is takes = absurd is

pub refused_takes : (t : Table) (jobs : OpenJobs) (c : Command) (why : Refusal) (old new : Counts) → IsWork c → TakesAsTold t jobs c (answer.Refused why) old new
refused_takes t jobs c why old new is = takes_at_work t jobs c (answer.Refused why) old new is tt

pub worked_takes : (t : Table) (jobs : OpenJobs) (c : Command) (closed : Work) (old new : Counts) → IsWork c → CountsRead closed.read old new → (result : Result (Session × Answer) Failed) → IfOk result (λ next. IsAnsweredBy closed next.1)
    → IfOk result (λ next. TakesAsTold t jobs c next.1 old new)
worked_takes t jobs c closed old new is counts (Ok next) answered =
    elim answered [
      | inl same ↦ subst (λ (a : Answer). TakesAsTold t jobs c a old new) (sym same) (takes_at_work t jobs c (answer_of closed) old new is counts)
      | inr same ↦ subst (λ (a : Answer). TakesAsTold t jobs c a old new) (sym same) (refused_takes t jobs c refusal.Memory old new is)
    ]
worked_takes t jobs c closed old new is counts (Err failed) answered = tt

-- the files that work changes are those that it may change
pub changes_at_work : (session : Session) (c : Command) → IsWork c → (u v : View) → folder.WorkChangesAtMost (folder_of session) u v → folder.ChangesAtMost (folder_of session) c u v
changes_at_work session (command.Run name tree) is u v changes = changes
changes_at_work session (command.Fetch name as_run) is u v changes = changes
changes_at_work session _ is u v changes = absurd is
