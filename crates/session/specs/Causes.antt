-- By which bytes of the store's files a refusal comes.
use Rattle.std.specs.Prelude.{ℕ, true, List, Option, None, Some, ⊤}
use Rattle.plan_core.specs.PlainPlan.{PlainPlan}
use Rattle.catalog_core.specs.Table.{Table}
use Rattle.job_table.specs.declared.table.OpenJob.{OpenJob}
use Rattle.script_text.specs.declared.answer.Answer.{Answer}
use Rattle.script_text.specs.declared.answer.Answer.TheVariants as answer
use Rattle.script_text.specs.declared.answer.Refusal.{Refusal}
use Rattle.script_text.specs.declared.answer.Refusal.TheVariants as refusal
use Rattle.script_text.specs.declared.item.Command.{Command}
use Rattle.script_text.specs.declared.item.Command.TheVariants as command
use Rattle.folder_session.specs.Causes.{SparesStore, IsOfFiles, IsOfExtentIn}
use Rattle.folder_session.specs.Causes as folder
use Rattle.work_run.specs.Opened.{opened_rewriting}
use Rattle.job_turns.specs.Turns.{GoesOn}
use Rattle.job_turns.specs.declared.job.JobWork.{JobWork}
use Rattle.session.specs.Jobs.{OpenJobs, open_named}

-- they are those of an extent that the job's rewriting names, or one to which it goes on
pub record IsOfWork (t : Table) (job : JobWork) (files : ℕ → List ℕ) (why : Refusal) : Type 0 where
  pub plan : PlainPlan
  pub last : JobWork
  pub goes : GoesOn true t plan job last
  pub of_files : IsOfFiles t (opened_rewriting last.work) files why
  pub of_extent : IsOfExtentIn t (opened_rewriting last.work) why

-- damage and unreadable bytes are so
abbrev pub IsFoundOf : Table → JobWork → (ℕ → List ℕ) → Refusal → Type 0
IsFoundOf t job files (refusal.Damaged file kept found) = IsOfWork t job files (refusal.Damaged file kept found)
IsFoundOf t job files (refusal.Unreadable file at) = IsOfWork t job files (refusal.Unreadable file at)
IsFoundOf t job files _ = ⊤

abbrev pub IsOfJob : Table → Option (OpenJob JobWork) → (ℕ → List ℕ) → Refusal → Type 0
IsOfJob t (Some opened) files why = IsFoundOf t opened.job files why
IsOfJob t None files why = SparesStore why

-- A refusal that is laid to the store is that of a command that reads files, and damage and unreadable bytes are those of an extent
-- that it reads.
abbrev pub HasByteCause : Table → OpenJobs → Command → (ℕ → List ℕ) → Answer → Type 0
HasByteCause t jobs (command.Step job) files (answer.Refused why) = IsOfJob t (open_named jobs job) files why
HasByteCause t jobs (command.Close job) files (answer.Refused why) = IsOfJob t (open_named jobs job) files why
HasByteCause t jobs (command.Step job) files _ = ⊤
HasByteCause t jobs (command.Close job) files _ = ⊤
HasByteCause t jobs c files given = folder.HasByteCause t c files given
