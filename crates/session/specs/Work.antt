-- Open work of a command: as it is opened, read on and closed.
use Rattle.std.specs.Prelude.{◌≡◌, ◌≢◌, ◌⊎◌, ℕ, Bool, [], length, Option, Ok, Err, ⊤}
use Rattle.outside_traits.specs.View.{View, Counts}
use Rattle.plan_core.specs.PlainPlan.{PlainPlan}
use Rattle.estimator.specs.Bytes.{capped}
use Rattle.rewrite_core.specs.Files.{files_of}
use Rattle.catalog_core.specs.Table.{Table}
use Rattle.extent_files.specs.declared.read_refusal.ReadRefusal.{ReadRefusal}
use Rattle.executor.specs.Runs.{of_reading}
use Rattle.executor.specs.declared.refusal.RunRefusal.{RunRefusal}
use Rattle.folder.specs.Sound.{Care}
use Rattle.folder.specs.State.{State, table}
use Rattle.plan_choice.specs.Taken.{IsTaken}
use Rattle.planning.specs.Running.{Run, storing}
use Rattle.script_text.specs.declared.answer.Answer.{Answer}
use Rattle.script_text.specs.declared.answer.Answer.TheVariants as answer
use Rattle.script_text.specs.declared.answer.LimitKind.{LimitKind}
use Rattle.script_text.specs.declared.answer.Refusal.{Refusal}
use Rattle.script_text.specs.declared.answer.Refusal.TheVariants as refusal
use Rattle.folder_session.specs.Machine.{IsOfExtent}
use Rattle.folder_session.specs.Standing.{Records}
use Rattle.folder_session.specs.WorkRefusals.{refusal_of}
use Rattle.folder_session.specs.Working.{answer_of}
use Rattle.folder_session.specs.declared.session.FolderSession.{FolderSession}
use Rattle.work_run.specs.Opened.{HasRead, files_left, opened_rewriting}
use Rattle.work_turns.specs.declared.work.WorkInTurns.{WorkInTurns}
use Rattle.job_turns.specs.Ends.{IsReadFor}
use Rattle.job_turns.specs.Jobs as work
use Rattle.job_turns.specs.Steps.{IsAsBefore, IsStep}
use Rattle.job_turns.specs.Turns.{Halts, Reads}
use Rattle.job_turns.specs.declared.job.JobStep.{JobStep}
use Rattle.job_turns.specs.declared.job.JobWork.{JobWork}
use Rattle.session.specs.Jobs.{OpenJobs, AreLeftBehind}

-- a least rewriting was taken of the plan's normal form; none of its files is read, and no result is noted
pub record IsOpened (t : Table) (run : Run) (job : JobWork) : Type 0 where
  pub program_is : job.work.program ≡ run.program
  pub taken : IsTaken t run.plan job.normal.plan run.program.cuts (opened_rewriting job.work)
  pub is_job : work.IsJob t run.plan job
  pub unread : files_left job.work ≡ files_of (opened_rewriting job.work)
  pub noted : job.noted.items ≡ []
  pub before : job.before ≡ 0
  pub read : (s : State) → t ≡ table s → HasRead s job.work

-- ---- one file further

-- Where a file is left it is read, or the kept result that it is of is noted, and so many are left. A refusal comes where one is
-- left, and leaves those that were.
abbrev pub StepsOn : Bool → Table → PlainPlan → JobWork → JobWork → Counts → Counts → Answer → Type 0
StepsOn tells t plan old new first last (answer.Left n) =
    (n ≡ capped (length (files_left new.work)))
    × (((files_left old.work ≡ []) × (new ≡ old) × (last ≡ first)) ⊎ ((files_left old.work ≢ []) × (step : JobStep) × IsStep tells t plan old new first last step))
StepsOn tells t plan old new first last (answer.Refused why) = (files_left old.work ≢ []) × IsAsBefore old new
StepsOn tells t plan old new first last _ = ⊥

-- it went on so, or was refused for what reading met, of which damage is that of an extent
abbrev pub ReadsOn : Bool → Table → View → PlainPlan → JobWork → JobWork → Counts → Counts → Answer → Type 0
ReadsOn tells t view plan old new first last (answer.Refused why) =
    (met : ReadRefusal) × (why ≡ refusal_of (of_reading met)) × IsOfExtent t why × Halts tells t view plan old new first last (of_reading met)
ReadsOn tells t view plan old new first last _ = Reads tells t view plan old new first last

-- ---- closed

abbrev pub run_of : PlainPlan → JobWork → Run
run_of plan job = record { plan = plan; program = job.work.program }

-- no limit is passed
abbrev pub IsWithin : Table → JobWork → Type 0
IsWithin t job = (plan : PlainPlan) → storing t (run_of plan job) ≡ Ok (run_of plan job)

-- a limit is passed, and nothing is read
pub record IsOver (t : Table) (old new : JobWork) (first last : Counts) (why : Refusal) : Type 0 where
  pub kind : LimitKind
  pub why_is : why ≡ refusal.Limit kind
  pub over : (plan : PlainPlan) → storing t (run_of plan old) ≡ Err (refusal.Limit kind)
  pub same : new ≡ old
  pub unread : last ≡ first

-- reading met something, or the rows aren't made of what was read
pub record IsStopped (tells : Bool) (t : Table) (view : View) (plan : PlainPlan) (old new : JobWork) (first last : Counts) (why : Refusal) : Type 0 where
  pub within : IsWithin t old
  pub met : RunRefusal
  pub why_is : why ≡ refusal_of met
  pub of_extent : IsOfExtent t why
  pub halts : Halts tells t view plan old new first last met
  pub whole : IsReadFor new.work met

-- why it isn't closed
abbrev pub IsNotClosed : Bool → Table → View → PlainPlan → JobWork → JobWork → Counts → Counts → Refusal → Type 0
IsNotClosed tells t view plan old new first last why = IsOver t old new first last why ⊎ IsStopped tells t view plan old new first last why

-- ---- recorded

-- It is answered, and the jobs are left behind it, of which it may close the one at this place; or memory was refused, and they are as
-- they were.
abbrev pub IsEnded : Table → WorkInTurns → Option ℕ → OpenJobs → OpenJobs → Answer → Type 0
IsEnded t done closed old new given =
    ((given ≡ answer_of done.work) × AreLeftBehind t done.dropped.items closed old new) ⊎ ((given ≡ answer.Refused refusal.Memory) × (new ≡ old))

-- the folder's session means the state after it, or, where it is refused, the one before
abbrev pub IsRecorded : Care → View → View → FolderSession → State → State → Answer → Type 0
IsRecorded care u v base s new (answer.Refused why) = Records care u v base s s
IsRecorded care u v base s new _ = Records care u v base s new

-- and there its table is as it was
abbrev pub IsSameWhereRefused : Table → Table → Answer → Type 0
IsSameWhereRefused t u (answer.Refused why) = u ≡ t
IsSameWhereRefused t u _ = ⊤
