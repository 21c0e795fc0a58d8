-- What else is said of a close.
use Rattle.std.proofs.Common.{◌≡◌, ◌⊎◌, ◌∙◌, inl, inr, sym, ap, subst, ℕ, ◌+◌, ◌-◌, ◌^◌, min, true, List, [], Option, Some, None, Result, Ok, Err, IfOk, get_or, arith}
use Rattle.outside_traits.specs.View.{View, Counts}
use Rattle.outside_traits.specs.Runs.{Narrows}
use Rattle.outside_traits.specs.declared.failed.Failed.{Failed}
use Rattle.catalog_core.specs.Table.{Table}
use Rattle.script_text.specs.Answer.{IsNarrow}
use Rattle.script_text.specs.declared.answer.Answer.{Answer}
use Rattle.script_text.specs.declared.answer.Answer.TheVariants as answer
use Rattle.script_text.specs.declared.answer.Refusal.TheVariants as refusal
use Rattle.script_text.specs.declared.item.Command.TheVariants as command
use Rattle.folder.specs.Folders.{table_in}
use Rattle.folder_session.specs.Standing.{AreGoneSince, LeavesWhereRefused}
use Rattle.folder_session.specs.Working.{answer_of}
use Rattle.folder_session.proofs.DroppedLemmas.{gone_read}
use Rattle.folder_session.proofs.TakenLemmas.{read_then}
use Rattle.outside_traits.proofs.RunLemmas.{narrows_on}
use Rattle.plan_core.specs.PlainPlan.{PlainPlan}
use Rattle.estimator.specs.Bytes.{capped}
use Rattle.rewrite_core.specs.Files.{files_of}
use Rattle.catalog_core.specs.Named.{bytes_named}
use Rattle.job_table.specs.Jobs.{place_of}
use Rattle.job_table.specs.declared.table.OpenJob.{OpenJob}
use Rattle.work_run.specs.Ends.{CountsRead}
use Rattle.work_run.specs.Opened.{files_left, opened_rewriting}
use Rattle.job_turns.specs.Jobs.{bytes_read}
use Rattle.job_turns.specs.Turns.{Reads}
use Rattle.job_turns.specs.declared.job.JobWork.{JobWork}
use Rattle.session.specs.Causes.{HasByteCause, IsOfJob}
use Rattle.session.specs.Taken.{CloseTakes, TakesAsTold}
use Rattle.work_run.specs.declared.work.Work.{Work}
use Rattle.work_turns.specs.declared.work.WorkInTurns.{WorkInTurns}
use Rattle.session.specs.Jobs.{OpenJobs, open_named}
use Rattle.session.specs.Standing.{folder_of, jobs_of}
use Rattle.session.specs.Work.{IsEnded}
use Rattle.session.specs.declared.session.Session.{Session}
use Rattle.session.proofs.FoundLemmas.{close_taken}

-- its answer is that of the work, or memory was refused
abbrev pub IsAnsweredBy : Work → Answer → Type 0
IsAnsweredBy closed given = (given ≡ answer_of closed) ⊎ (given ≡ answer.Refused refusal.Memory)

pub ended_answers : (t : Table) (done : WorkInTurns) (closed : Option ℕ) (olds : OpenJobs) (result : Result (Session × Answer) Failed) → IfOk result (λ next. IsEnded t done closed olds (jobs_of next.0) next.1) → IfOk result (λ next. IsAnsweredBy done.work next.1)
ended_answers t done closed olds (Ok next) ended = elim ended [ inl is ↦ inl is.0 | inr is ↦ inr is.0 ]
ended_answers t done closed olds (Err failed) ended = tt

-- ---- behind what was read

pub refused_since : (u w v : View) → Narrows u w → (result : Result (Session × Answer) Failed) → IfOk result (λ next. LeavesWhereRefused next.1 w v) → IfOk result (λ next. LeavesWhereRefused next.1 u v)
refused_since u w v first (Ok next) leaves = by next.1 leaves
  where
    by : (given : Answer) → LeavesWhereRefused given w v → LeavesWhereRefused given u v
    by (answer.Refused why) then = narrows_on u w v first then
    by _ then = tt
refused_since u w v first (Err failed) leaves = tt

pub closed_gone : (t : Table) (v : View) (old mid new : Counts) → mid.removes ≡ old.removes → (result : Result (Session × Answer) Failed) → IfOk result (λ next. AreGoneSince t (table_in (folder_of next.0)) v mid new)
    → IfOk result (λ next. AreGoneSince t (table_in (folder_of next.0)) v old new)
closed_gone t v old mid new same (Ok next) gone = gone_read t (table_in (folder_of next.0)) v old mid new same gone
closed_gone t v old mid new same (Err failed) gone = tt

-- it tells the bytes that it takes, and those that the job took before
pub closed_takes : (t : Table) (view : View) (plan : PlainPlan) (o : OpenJob JobWork) (new : JobWork) (closed : Work) (first last : Counts) → (reads : Reads true t view plan o.job new first last) → files_left new.work ≡ [] → CountsRead reads.on.passed first last
    → closed.read ≡ capped (new.before + bytes_named t (files_of (opened_rewriting new.work))) → CloseTakes t (Some o) closed.read first last
closed_takes t view plan o new closed first last reads none counts told =
    let none_left : bytes_named t (files_left new.work) ≡ 0 = ap (bytes_named t) none in
    let passed = reads.on.passed_is in
    let before : new.before ≡ min (o.job.before + reads.on.bytes) (2 ^ 64 - 1) = reads.on.before in
    let read : closed.read ≡ min (new.before + bytes_named t (files_of (opened_rewriting new.work))) (2 ^ 64 - 1) = told in
    let sum : closed.read ≡ min (o.job.before + bytes_read t o.job.work + reads.on.passed) (2 ^ 64 - 1) = omega (arith, none_left, passed, before, read) in
    (reads.on.passed, sum, counts)

takes_then : (t : Table) (o : OpenJob JobWork) (told : ℕ) (old half new : Counts) → CloseTakes t (Some o) told old half → new.taken ≡ half.taken → CloseTakes t (Some o) told old new
takes_then t o told old half new (passed, is, counts) same = (passed, is, read_then passed old half new counts same)

pub ended_taken : (t : Table) (jobs : OpenJobs) (name : List ℕ) (at : ℕ) (o : OpenJob JobWork) → place_of jobs name ≡ Some at → o ≡ get_or jobs at o → (closed : Work) (old half new : Counts) → CloseTakes t (Some o) closed.read old half → new.taken ≡ half.taken
    → (result : Result (Session × Answer) Failed) → IfOk result (λ next. IsAnsweredBy closed next.1) → IfOk result (λ next. TakesAsTold t jobs (command.Close name) next.1 old new)
ended_taken t jobs name at o place stood closed old half new takes same (Ok next) ended = close_taken jobs name at o place stood t closed old new (takes_then t o closed.read old half new takes same) next.1 ended
ended_taken t jobs name at o place stood closed old half new takes same (Err failed) ended = tt

-- ---- it is laid to no file, once its files were read

want_of_job : (t : Table) (opened : Option (OpenJob JobWork)) (files : ℕ → List ℕ) → IsOfJob t opened files refusal.Memory
want_of_job t (Some opened) files = tt
want_of_job t None files = tt

pub ended_found : (t : Table) (jobs : OpenJobs) (name : List ℕ) (closed : Work) (files : ℕ → List ℕ) (result : Result (Session × Answer) Failed) → IfOk result (λ next. IsAnsweredBy closed next.1)
    → IfOk result (λ next. HasByteCause t jobs (command.Close name) files next.1)
ended_found t jobs name closed files (Ok next) ended =
    elim ended [
      | inl is ↦ subst (HasByteCause t jobs (command.Close name) files) (sym is) tt
      | inr is ↦ subst (HasByteCause t jobs (command.Close name) files) (sym is) (want_of_job t (open_named jobs name) files)
    ]
ended_found t jobs name closed files (Err failed) ended = tt

-- nor does it tell a failed read
pub ended_no_fault : (closed : Work) (P : Type 0) (result : Result (Session × Answer) Failed) → IfOk result (λ next. IsAnsweredBy closed next.1) → IfOk result (λ next. next.1 ≡ answer.Refused refusal.Fault → P)
ended_no_fault closed P (Ok next) ended = λ fault.
    elim ended [
      | inl is ↦ (let never : answer_of closed ≡ answer.Refused refusal.Fault = sym is ∙ fault in absurd (cc))
      | inr is ↦ (let never : answer.Refused refusal.Memory ≡ answer.Refused refusal.Fault = sym is ∙ fault in absurd (cc))
    ]
ended_no_fault closed P (Err failed) ended = tt

-- whatever is answered, so it is
pub same_whatever : (result : Result (Session × Answer) Failed) (a b : ℕ) → b ≡ a → IfOk result (λ next. (next.1 ≡ answer.Refused refusal.Fault → ⊥) → b ≡ a)
same_whatever (Ok next) a b same = λ other. same
same_whatever (Err failed) a b same = tt

-- it is short where the answer of its work is
pub ended_narrow : (closed : Work) → IsNarrow (answer_of closed) → (result : Result (Session × Answer) Failed) → IfOk result (λ next. IsAnsweredBy closed next.1) → IfOk result (λ next. IsNarrow next.1)
ended_narrow closed narrow (Ok next) ended = elim ended [
  | inl is ↦ subst IsNarrow (sym is) narrow
  | inr is ↦ subst IsNarrow (sym is) tt
]
ended_narrow closed narrow (Err failed) ended = tt
