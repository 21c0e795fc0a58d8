-- The bytes that a command takes of the files of a state.
use Rattle.std.specs.Prelude.{◌≡◌, ℕ, ◌+◌, ◌≤◌, true, List, [], ◌∷◌, Option, None, Some, ⊤}
use Rattle.outside_traits.specs.View.{Counts}
use Rattle.plan_core.specs.PlainPlan.{PlainPlan}
use Rattle.estimator.specs.Bytes.{capped}
use Rattle.rewrite_core.specs.Files.{FileName, Extent, Result}
use Rattle.catalog_core.specs.Named.{file_at}
use Rattle.catalog_core.specs.Table.{Table}
use Rattle.executor.specs.Running.{TookAtMost}
use Rattle.job_table.specs.declared.table.OpenJob.{OpenJob}
use Rattle.script_text.specs.declared.answer.Answer.{Answer}
use Rattle.script_text.specs.declared.answer.Answer.TheVariants as answer
use Rattle.script_text.specs.declared.item.Command.{Command}
use Rattle.script_text.specs.declared.item.Command.TheVariants as command
use Rattle.folder_session.specs.Taken.{TakesNone}
use Rattle.folder_session.specs.Taken as folder
use Rattle.work_run.specs.Ends.{CountsRead}
use Rattle.work_run.specs.Opened.{files_left}
use Rattle.job_turns.specs.Jobs.{bytes_read}
use Rattle.job_turns.specs.Turns.{GoesOn, next_len}
use Rattle.job_turns.specs.declared.job.JobWork.{JobWork}
use Rattle.session.specs.Jobs.{OpenJobs, open_named}

-- ---- never more than the files have

-- at most as many as belong to what is read, and the next file has, where the job goes on so
pub record TakesGoingOn (t : Table) (job : JobWork) (old new : Counts) : Type 0 where
  pub plan : PlainPlan
  pub last : JobWork
  pub goes : GoesOn true t plan job last
  pub most : TookAtMost (goes.passed + next_len t (files_left last.work)) old new

abbrev pub TakesForJob : Table → Option (OpenJob JobWork) → Counts → Counts → Type 0
TakesForJob t (Some opened) old new = TakesGoingOn t opened.job old new
TakesForJob t None old new = TakesNone old new

abbrev pub TakesFor : Table → OpenJobs → Command → Counts → Counts → Type 0
TakesFor t jobs (command.Step job) old new = TakesForJob t (open_named jobs job) old new
TakesFor t jobs (command.Close job) old new = TakesForJob t (open_named jobs job) old new
TakesFor t jobs c old new = folder.TakesFor t c old new

-- ---- as many as are told

-- the bytes of the first of these files, where there is one; that of a kept result may give fewer
abbrev pub TakesFirst : Table → List FileName → Counts → Counts → Type 0
TakesFirst t [] old new = TakesNone old new
TakesFirst t (Extent stream number ∷ names) old new = CountsRead (file_at t (Extent stream number)).len old new
TakesFirst t (Result id ∷ names) old new = (given : ℕ) × (given ≤ (file_at t (Result id)).len) × CountsRead given old new

abbrev pub StepTakes : Table → Option (OpenJob JobWork) → Counts → Counts → Type 0
StepTakes t (Some opened) old new = TakesFirst t (files_left opened.job.work) old new
StepTakes t None old new = ⊤

-- so many bytes are told, which are those that the job took before and those that are taken now
abbrev pub CloseTakes : Table → Option (OpenJob JobWork) → ℕ → Counts → Counts → Type 0
CloseTakes t (Some opened) told old new = (passed : ℕ) × (told ≡ capped (opened.job.before + bytes_read t opened.job.work + passed)) × CountsRead passed old new
CloseTakes t None told old new = ⊤

-- A step takes the bytes of the file that it reads, a close as many as it tells, but for those that the job took before, and any other
-- result as many as it tells.
abbrev pub TakesAsTold : Table → OpenJobs → Command → Answer → Counts → Counts → Type 0
TakesAsTold t jobs (command.Step job) (answer.Left n) old new = StepTakes t (open_named jobs job) old new
TakesAsTold t jobs (command.Step job) _ old new = ⊤
TakesAsTold t jobs (command.Close job) (answer.Result rows used kept read) old new = CloseTakes t (open_named jobs job) read old new
TakesAsTold t jobs (command.Close job) _ old new = ⊤
TakesAsTold t jobs c given old new = folder.TakesAsTold given old new
