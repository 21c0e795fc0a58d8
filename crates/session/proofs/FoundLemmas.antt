-- What a command on a job finds and takes, by the job of its name.
use Rattle.std.proofs.Common.{◌≡◌, ◌⊎◌, inl, inr, refl, sym, ap, ◌∙◌, subst, ℕ, ◌+◌, ◌≤◌, Bool, true, List, [], ◌∷◌, Option, Some, None, get_or, append-nil, arith}
use Rattle.std.proofs.Math.ListN.{set}
use Rattle.std.specs.Bool.{IsTrue}
use Rattle.std.proofs.lemmas.List.{append_cancel_left}
use Rattle.outside_traits.specs.Counts.{Rose}
use Rattle.outside_traits.specs.View.{View, Counts}
use Rattle.plan_core.specs.PlainPlan.{PlainPlan}
use Rattle.rewrite_core.specs.Files.{FileName, Extent, Result, files_of}
use Rattle.rewrite_core.specs.PlainRewriting.{PlainRewriting}
use Rattle.catalog_core.specs.Named.{file_at}
use Rattle.catalog_core.specs.Table.{Table}
use Rattle.executor.specs.Runs as runs
use Rattle.executor.specs.Runs.{of_reading}
use Rattle.executor.specs.declared.refusal.RunRefusal.{RunRefusal}
use Rattle.executor.specs.declared.refusal.RunRefusal.TheVariants as run
use Rattle.script_text.specs.Answer.{IsNarrow}
use Rattle.script_text.specs.declared.answer.Answer.{Answer}
use Rattle.script_text.specs.declared.answer.Answer.TheVariants as answer
use Rattle.script_text.specs.declared.answer.Refusal.{Refusal}
use Rattle.script_text.specs.declared.answer.Refusal.TheVariants as refusal
use Rattle.script_text.specs.declared.item.Command.TheVariants as command
use Rattle.folder_session.specs.Causes.{IsOfFiles, IsOfExtentIn}
use Rattle.folder_session.specs.WorkRefusals.{refusal_of}
use Rattle.folder_session.specs.Working.{answer_of}
use Rattle.folder_session.proofs.LeavingLemmas.{fault_rose, unread_counts}
use Rattle.folder_session.proofs.RefusalLemmas.{work_found}
use Rattle.job_table.specs.Jobs.{place_of}
use Rattle.job_table.specs.declared.table.OpenJob.{OpenJob}
use Rattle.work_run.specs.Ends.{CountsRead}
use Rattle.work_run.specs.Opened.{HasRead, files_left, opened_rewriting}
use Rattle.work_run.specs.declared.work.Work.{Work}
use Rattle.work_run.proofs.OpenSteps.{rewriting-same}
use Rattle.plan_choice.specs.Leaving.{leaving_out}
use Rattle.job_turns.specs.Jobs as work
use Rattle.job_turns.specs.Steps.{ReadsOne}
use Rattle.job_turns.specs.Turns.{GoesOn, Halts, Reads, Turns, next_len}
use Rattle.job_turns.specs.declared.job.JobStep.TheVariants as step
use Rattle.job_turns.specs.declared.job.JobWork.{JobWork}
use Rattle.job_turns.proofs.OpenJobs.{read-more}
use Rattle.job_turns.proofs.Reading.{reads-nothing}
use Rattle.folder.specs.Left.{IsLeft}
use Rattle.folder.specs.Sound.{Care}
use Rattle.folder.specs.State.{State, table}
use Rattle.session.specs.Causes.{IsFoundOf, IsOfJob, HasByteCause}
use Rattle.session.specs.Jobs.{OpenJobs, IsHeldOver, AreHeldOver, open_named}
use Rattle.session.specs.Taken.{TakesFirst, TakesGoingOn, TakesForJob, TakesFor, StepTakes, CloseTakes, TakesAsTold}
use Rattle.session.specs.Work.{IsNotClosed, ReadsOn, StepsOn}
use Rattle.session.proofs.Places.{first_at, none_at, within_first, opened_at, none_opened, each_at, each_set}

-- ---- the job of the name

module _ (jobs : OpenJobs) (name : List ℕ) (at : ℕ) (o : OpenJob JobWork) (place : place_of jobs name ≡ Some at) (stood : o ≡ get_or jobs at o) where
  pub named_at : open_named jobs name ≡ Some o
  named_at = opened_at name jobs at o (first_at name jobs at place) ∙ ap (λ (x : OpenJob JobWork). Some x) (sym stood)

  pub held_at : (t : Table) → AreHeldOver t jobs → IsHeldOver t o
  held_at t all = subst (IsHeldOver t) (sym stood) (each_at (IsHeldOver t) jobs at o (within_first name jobs at (first_at name jobs at place)) all)

  -- it goes on being open over the table as it is read
  pub read_held : (t : Table) (job : JobWork) → ((plan : PlainPlan) → work.IsJob t plan o.job → work.IsJob t plan job) → AreHeldOver t jobs → AreHeldOver t (set jobs at (record { name = o.name; job = job }))
  read_held t job still all =
      let is = held_at t all in
      each_set (IsHeldOver t) jobs at (record { name = o.name; job = job }) all (record { plan = is.plan; is_job = still is.plan is.is_job })

  pub step_found : (t : Table) (files : ℕ → List ℕ) (why : Refusal) → IsFoundOf t o.job files why → HasByteCause t jobs (command.Step name) files (answer.Refused why)
  step_found t files why is = subst (λ (found : Option (OpenJob JobWork)). IsOfJob t found files why) (sym named_at) is

  pub step_taken : (t : Table) (old new : Counts) (n : ℕ) → TakesFirst t (files_left o.job.work) old new → TakesAsTold t jobs (command.Step name) (answer.Left n) old new
  step_taken t old new n is = subst (λ (found : Option (OpenJob JobWork)). StepTakes t found old new) (sym named_at) is

  pub step_most : (t : Table) (old new : Counts) → TakesGoingOn t o.job old new → TakesFor t jobs (command.Step name) old new
  step_most t old new most = subst (λ (found : Option (OpenJob JobWork)). TakesForJob t found old new) (sym named_at) most

  -- and of a close
  pub close_found : (t : Table) (files : ℕ → List ℕ) (why : Refusal) → IsFoundOf t o.job files why → HasByteCause t jobs (command.Close name) files (answer.Refused why)
  close_found t files why is = subst (λ (found : Option (OpenJob JobWork)). IsOfJob t found files why) (sym named_at) is

  pub close_most : (t : Table) (old new : Counts) → TakesGoingOn t o.job old new → TakesFor t jobs (command.Close name) old new
  close_most t old new most = subst (λ (found : Option (OpenJob JobWork)). TakesForJob t found old new) (sym named_at) most

  pub close_taken : (t : Table) (closed : Work) (old new : Counts) → CloseTakes t (Some o) closed.read old new → (given : Answer) → (given ≡ answer_of closed) ⊎ (given ≡ answer.Refused refusal.Memory) → TakesAsTold t jobs (command.Close name) given old new
  close_taken t closed old new takes given (inl is) =
      subst (λ (a : Answer). TakesAsTold t jobs (command.Close name) a old new) (sym is) (subst (λ (found : Option (OpenJob JobWork)). CloseTakes t found closed.read old new) (sym named_at) takes)
  close_taken t closed old new takes given (inr is) = subst (λ (a : Answer). TakesAsTold t jobs (command.Close name) a old new) (sym is) tt

-- ---- no job of the name

module _ (jobs : OpenJobs) (name : List ℕ) (none : place_of jobs name ≡ None) where
  unnamed : open_named jobs name ≡ None
  unnamed = none_opened name jobs (none_at name jobs none)

  pub unknown_found : (t : Table) (files : ℕ → List ℕ) → HasByteCause t jobs (command.Step name) files (answer.Refused (refusal.Unknown name))
  unknown_found t files = subst (λ (found : Option (OpenJob JobWork)). IsOfJob t found files (refusal.Unknown name)) (sym unnamed) tt

  pub unknown_most : (t : Table) (counts : Counts) → TakesFor t jobs (command.Step name) counts counts
  unknown_most t counts = subst (λ (found : Option (OpenJob JobWork)). TakesForJob t found counts counts) (sym unnamed) refl

  pub unclosed_most : (t : Table) (counts : Counts) → TakesFor t jobs (command.Close name) counts counts
  unclosed_most t counts = subst (λ (found : Option (OpenJob JobWork)). TakesForJob t found counts counts) (sym unnamed) refl

-- ---- what was read, and why it ended

module _ (t : Table) (view : View) (plan : PlainPlan) (old new : JobWork) (first last : Counts) where
  -- by the bytes of an extent's file
  of_found : (why : Refusal) → GoesOn true t plan old new → IsOfFiles t (opened_rewriting new.work) view.files why → IsOfExtentIn t (opened_rewriting new.work) why → IsFoundOf t old view.files why
  of_found (refusal.Damaged file kept found) on files extent = record { plan = plan; last = new; goes = on; of_files = files; of_extent = extent }
  of_found (refusal.Unreadable file at) on files extent = record { plan = plan; last = new; goes = on; of_files = files; of_extent = extent }
  of_found _ on files extent = tt

  extent_in : (r : PlainRewriting) (met : RunRefusal) → runs.IsOfExtent (file_at t) r met → IsOfExtentIn t r (refusal_of met)
  extent_in r (run.Damaged file kept found taken) is = is
  extent_in r (run.Unreadable file at taken) is = is
  extent_in r run.Overflow is = tt
  extent_in r run.Machine is = tt
  extent_in r run.Fault is = tt
  extent_in r run.Memory is = tt

  pub halts_found : (met : RunRefusal) → Halts true t view plan old new first last met → IsFoundOf t old view.files (refusal_of met)
  halts_found met is =
      let r = opened_rewriting new.work in
      of_found (refusal_of met) is.on (work_found t view.files r (file_at t) first last met is.cause (is.found refl)) (extent_in r met is.of_extent)

  pub reads_most : Reads true t view plan old new first last → TakesGoingOn t old first last
  reads_most is = record {
    plan = plan;
    last = new;
    goes = is.on;
    most = (let few : last.taken ≤ first.taken + is.on.passed = is.most refl in omega (arith, few));
  }

  pub halts_most : (met : RunRefusal) → Halts true t view plan old new first last met → TakesGoingOn t old first last
  halts_most met is = record { plan = plan; last = new; goes = is.on; most = is.most refl }

-- one that took as much as it may before, and no more then
pub most_on : (t : Table) (job : JobWork) (old mid new : Counts) → TakesGoingOn t job old mid → new.taken ≡ mid.taken → TakesGoingOn t job old new
most_on t job old mid new is same = record {
  plan = is.plan;
  last = is.last;
  goes = is.goes;
  most = (let few : mid.taken ≤ old.taken + (is.goes.passed + next_len t (files_left is.last.work)) = is.most in omega (arith, few, same));
}

-- ---- a step

module _ (t : Table) (view : View) (plan : PlainPlan) (old new : JobWork) (first last : Counts) where
  -- what reads one file passes its bytes
  one_passed : work.IsJob t plan old → (one : ReadsOne old new) → (on : GoesOn true t plan old new) → on.passed ≡ (file_at t one.name).len
  one_passed is one on =
      let more = read-more t plan (leaving_out old.noted.items t) old.work new.work (rewriting-same old.work new.work one.same) is.is_open one.name one.next in
      let none : on.ids ≡ [] = append_cancel_left old.noted.items on.ids [] (sym on.noted ∙ ap (λ v. v.items) one.noted ∙ sym (append-nil old.noted.items)) in
      let passed = on.passed_is in
      let bytes = no_bytes on.ids none (opened_rewriting new.work) (files_left new.work) on.bytes on.turns in
      omega (arith, more, passed, bytes)
    where
      no_bytes : (ids : List ℕ) → ids ≡ [] → (r : PlainRewriting) (left : List FileName) (bytes : ℕ) → Turns true t plan old.normal.plan old.work.program.cuts old.noted.items (opened_rewriting old.work) (files_left old.work) ids r left bytes → bytes ≡ 0
      no_bytes [] none r left bytes turns = turns.3
      no_bytes (id ∷ ids) none r left bytes turns = absurd (cc)

  first_taken : (name : FileName) (names : List FileName) → files_left old.work ≡ name ∷ names → CountsRead (file_at t name).len first last → TakesFirst t (files_left old.work) first last
  first_taken name names left counts = subst (λ (l : List FileName). TakesFirst t l first last) (sym left) (by name counts)
    where
      by : (name : FileName) → CountsRead (file_at t name).len first last → TakesFirst t (name ∷ names) first last
      by (Extent stream number) counts = counts
      by (Result id) counts = ((file_at t (Result id)).len, omega arith, counts)

  pub step_takes : work.IsJob t plan old → (n : ℕ) → StepsOn true t plan old new first last (answer.Left n) → (reads : Reads true t view plan old new first last) → CountsRead reads.on.passed first last → TakesFirst t (files_left old.work) first last
  step_takes is n (count, inl (none, same, unread)) reads counts = subst (λ (l : List FileName). TakesFirst t l first last) (sym none) (ap (λ (c : Counts). c.taken) unread)
  step_takes is n (count, inr (some, step.Read, one)) reads counts = first_taken one.name (files_left new.work) one.next (subst (λ (b : ℕ). CountsRead b first last) (one_passed is one reads.on) counts)
  step_takes is n (count, inr (some, step.Noted id, noted)) reads counts =
      subst (λ (l : List FileName). TakesFirst t l first last) (sym noted.notes.next) (noted.given, noted.few refl, inl noted.took)

pub steps_narrow : (tells : Bool) (t : Table) (plan : PlainPlan) (old new : JobWork) (first last : Counts) (given : Answer) → StepsOn tells t plan old new first last given → IsNarrow given
steps_narrow tells t plan old new first last (answer.Left n) told = tt
steps_narrow tells t plan old new first last (answer.Refused why) told = tt
steps_narrow tells t plan old new first last _ told = absurd told

-- ---- failed looks

module _ (tells : Bool) (t : Table) (view : View) (plan : PlainPlan) (old new : JobWork) (first last : Counts) where
  pub step_rose : (given : Answer) → ReadsOn tells t view plan old new first last given → given ≡ answer.Refused refusal.Fault → Rose first.reads last.reads
  step_rose (answer.Refused why) (met, why_is, extent, halts) is =
      let same : why ≡ refusal.Fault = cc in
      fault_rose (file_at t) (files_of (opened_rewriting new.work)) first last (of_reading met) halts.cause (sym why_is ∙ same)
  step_rose answer.Ok reads is = absurd (cc)
  step_rose (answer.Held n) reads is = absurd (cc)
  step_rose (answer.Ready n) reads is = absurd (cc)
  step_rose (answer.Left n) reads is = absurd (cc)
  step_rose (answer.Result rows used kept read) reads is = absurd (cc)
  step_rose (answer.Evicted ids bytes) reads is = absurd (cc)
  step_rose (answer.Entries entries) reads is = absurd (cc)
  step_rose (answer.Catalog line) reads is = absurd (cc)

  pub step_unread : (given : Answer) → ReadsOn tells t view plan old new first last given → (given ≡ answer.Refused refusal.Fault → ⊥) → last.reads ≡ first.reads
  step_unread (answer.Refused why) (met, why_is, extent, halts) other =
      unread_counts (file_at t) (files_of (opened_rewriting new.work)) first last (of_reading met) halts.cause (λ is. other (ap answer.Refused (why_is ∙ is)))
  step_unread _ reads other = reads.no_fault

  pub not_closed_rose : (why : Refusal) → IsNotClosed tells t view plan old new first last why → why ≡ refusal.Fault → Rose first.reads last.reads
  not_closed_rose why (inl over) is = (let limit : refusal.Limit over.kind ≡ refusal.Fault = sym over.why_is ∙ is in absurd (cc))
  not_closed_rose why (inr stopped) is = fault_rose (file_at t) (files_of (opened_rewriting new.work)) first last stopped.met stopped.halts.cause (sym stopped.why_is ∙ is)

  pub not_closed_unread : (why : Refusal) → IsNotClosed tells t view plan old new first last why → (why ≡ refusal.Fault → ⊥) → last.reads ≡ first.reads
  not_closed_unread why (inl over) other = ap (λ (c : Counts). c.reads) over.unread
  not_closed_unread why (inr stopped) other = unread_counts (file_at t) (files_of (opened_rewriting new.work)) first last stopped.met stopped.halts.cause (λ is. other (stopped.why_is ∙ is))

-- ---- a step, by the job of its name

module _ (jobs : OpenJobs) (name : List ℕ) (at : ℕ) (o : OpenJob JobWork) (place : place_of jobs name ≡ Some at) (stood : o ≡ get_or jobs at o) (tells : Bool) (told : IsTrue tells) (t : Table) (view : View) (plan : PlainPlan) (new : JobWork) (first last : Counts) where
  as_told : (met : RunRefusal) → Halts tells t view plan o.job new first last met → Halts true t view plan o.job new first last met
  as_told met is = subst (λ (b : Bool). Halts b t view plan o.job new first last met) told is

  pub step_caused : (given : Answer) → ReadsOn tells t view plan o.job new first last given → HasByteCause t jobs (command.Step name) view.files given
  step_caused (answer.Refused why) (met, why_is, extent, halts) =
      step_found jobs name at o place stood t view.files why (subst (IsFoundOf t o.job view.files) (sym why_is) (halts_found t view plan o.job new first last (of_reading met) (as_told (of_reading met) halts)))
  step_caused _ reads = tt

  pub step_took : (given : Answer) → ReadsOn tells t view plan o.job new first last given → TakesFor t jobs (command.Step name) first last
  step_took (answer.Refused why) (met, why_is, extent, halts) = step_most jobs name at o place stood t first last (halts_most t view plan o.job new first last (of_reading met) (as_told (of_reading met) halts))
  step_took _ reads = step_most jobs name at o place stood t first last (reads_most t view plan o.job new first last (subst (λ (b : Bool). Reads b t view plan o.job new first last) told reads))

  pub step_told : work.IsJob t plan o.job → (care : Care) (s : State) → IsLeft care view s s → t ≡ table s → HasRead s o.job.work → (given : Answer) → StepsOn tells t plan o.job new first last given → ReadsOn tells t view plan o.job new first last given
      → TakesAsTold t jobs (command.Step name) given first last
  step_told is care s left same has (answer.Left n) goes reads =
      let known : Reads true t view plan o.job new first last = subst (λ (b : Bool). Reads b t view plan o.job new first last) told reads in
      step_taken jobs name at o place stood t first last n
      (step_takes t view plan o.job new first last is n (subst (λ (b : Bool). StepsOn b t plan o.job new first last (answer.Left n)) told goes) known (known.over refl care s left same has).2)
  step_told is care s left same has _ goes reads = tt

-- ---- and a close that isn't done

pub stopped_found : (tells : Bool) → IsTrue tells → (t : Table) (view : View) (plan : PlainPlan) (old new : JobWork) (first last : Counts) (why : Refusal) → IsNotClosed tells t view plan old new first last why → IsFoundOf t old view.files why
stopped_found tells told t view plan old new first last why (inl over) = subst (IsFoundOf t old view.files) (sym over.why_is) tt
stopped_found tells told t view plan old new first last why (inr is) =
    subst (IsFoundOf t old view.files) (sym is.why_is) (halts_found t view plan old new first last is.met (subst (λ (b : Bool). Halts b t view plan old new first last is.met) told is.halts))

pub stopped_most : (tells : Bool) → IsTrue tells → (t : Table) (view : View) (plan : PlainPlan) (old new : JobWork) (first last : Counts) (why : Refusal) → work.IsJob t plan old → IsNotClosed tells t view plan old new first last why → TakesGoingOn t old first last
stopped_most tells told t view plan old new first last why is (inl over) =
    subst (λ (c : Counts). TakesGoingOn t old first c) (sym over.unread) (reads_most t view plan old old first first (reads-nothing true t view plan old first is))
stopped_most tells told t view plan old new first last why is (inr stopped) = halts_most t view plan old new first last stopped.met (subst (λ (b : Bool). Halts b t view plan old new first last stopped.met) told stopped.halts)
