-- The open jobs of a session.
use Rattle.std.specs.Prelude.{◌≡◌, ◌⊎◌, ℕ, ◌≤◌, bytes_eq, List, [], ◌∷◌, ◌++◌, length, Option, None, Some}
use Rattle.std.specs.List.{find, AllByRecursion, flat_map, remove}
use Rattle.plan_core.specs.PlainPlan.{PlainPlan}
use Rattle.row_blob.specs.Kept.{AreEach}
use Rattle.catalog_core.specs.Table.{Table}
use Rattle.estimator.specs.Bytes.{capped}
use Rattle.script_text.specs.declared.answer.Answer.{Answer}
use Rattle.script_text.specs.declared.answer.Answer.TheVariants as answer
use Rattle.script_text.specs.declared.answer.Refusal.TheVariants as refusal
use Rattle.folder.specs.State.{State, table}
use Rattle.job_table.specs.Jobs.{put_next}
use Rattle.job_table.specs.declared.table.OpenJob.{OpenJob}
use Rattle.work_run.specs.Opened.{HasRead, files_left, opened_rewriting}
use Rattle.job_turns.specs.Jobs as work
use Rattle.job_turns.specs.declared.job.JobWork.{JobWork}
use Rattle.session.specs.MachineJob as machine
use Rattle.session.specs.MachineJob.{Job, steps_of}

-- of a session, by their names
abbrev pub OpenJobs : Type 0
OpenJobs = List (OpenJob JobWork)

abbrev pub open_named : OpenJobs → List ℕ → Option (OpenJob JobWork)
open_named jobs name = find (λ opened. bytes_eq opened.name name) jobs

-- the kept results that they hold: those that their rewritings read
abbrev pub held_of : OpenJobs → List ℕ
held_of jobs = flat_map (λ opened. opened.job.work.used.items) jobs

-- ---- whatever the files are

-- it is open work of some plan over the table
pub record IsHeldOver (t : Table) (opened : OpenJob JobWork) : Type 0 where
  pub plan : PlainPlan
  pub is_job : work.IsJob t plan opened.job

abbrev pub AreHeldOver : Table → OpenJobs → Type 0
AreHeldOver t jobs = AllByRecursion (IsHeldOver t) jobs

-- ---- over the files of a state

-- it stands for the machine's job: what was read of its files is what the state's extents and kept results are
pub record IsJob (s : State) (job : Job) (opened : OpenJob JobWork) : Type 0 where
  pub name : opened.name ≡ job.name
  pub program : opened.job.work.program ≡ job.run.program
  pub normal : opened.job.normal.plan ≡ job.normal
  pub rewriting : opened_rewriting opened.job.work ≡ job.rewriting
  pub used : opened.job.work.used.items ≡ job.used
  pub noted : opened.job.noted.items ≡ job.noted
  pub before : opened.job.before ≡ job.before
  pub is_job : work.IsJob (table s) job.run.plan opened.job
  pub within : job.done ≤ steps_of job
  pub left : files_left opened.job.work ≡ machine.files_left job
  pub read : HasRead s opened.job.work

abbrev pub AreJobs : State → List Job → OpenJobs → Type 0
AreJobs s = AreEach (IsJob s)

-- ---- kept results that are dropped

-- the job stays, or another rewriting is chosen for it
abbrev pub IsLeft : Table → List ℕ → OpenJob JobWork → OpenJob JobWork → Type 0
IsLeft t dropped old new = (next : Option JobWork) × work.IsNextWithout t dropped old.job next × (new ≡ put_next old next)

abbrev pub AreLeft : Table → List ℕ → OpenJobs → OpenJobs → Type 0
AreLeft t dropped = AreEach (IsLeft t dropped)

-- all but the one at this place, where one is given
abbrev pub all_but : Option ℕ → OpenJobs → OpenJobs
all_but None jobs = jobs
all_but (Some at) jobs = remove jobs at

-- the jobs behind work that drops these, and that closes the one at this place
pub record AreLeftBehind (t : Table) (dropped : List ℕ) (closed : Option ℕ) (old new : OpenJobs) : Type 0 where
  pub left : OpenJobs
  pub are : AreLeft t dropped old left
  pub stand : new ≡ all_but closed left

-- ---- a job more

-- work that is taken up behind the others
pub record Admitted (name : List ℕ) (job : JobWork) (old new : OpenJobs) (given : Answer) : Type 0 where
  pub added : OpenJob JobWork
  pub name_is : added.name ≡ name
  pub job_is : added.job ≡ job
  pub behind : new ≡ old ++ added ∷ []
  pub told : given ≡ answer.Ready (capped (length (files_left job.work)))

-- or memory was refused, and the jobs are as they were
abbrev pub IsAdmitted : List ℕ → JobWork → OpenJobs → OpenJobs → Answer → Type 0
IsAdmitted name job old new given = Admitted name job old new given ⊎ ((given ≡ answer.Refused refusal.Memory) × (new ≡ old))
