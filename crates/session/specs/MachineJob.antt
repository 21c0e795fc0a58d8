-- A job of the abstract machine, and how it goes on.
use Rattle.std.specs.Prelude.{◌≡◌, ◌⊎◌, ℕ, ◌+◌, ◌-◌, ◌≤◌, min, true, List, [], ◌∷◌, ◌++◌, length, drop}
use Rattle.std.specs.List.{AllByRecursion}
use Rattle.plan_core.specs.PlainPlan.{PlainPlan}
use Rattle.estimator.specs.Bytes.{capped}
use Rattle.rewrite_core.specs.Files.{FileName, Result, AreIdsOf, files_of}
use Rattle.rewrite_core.specs.PlainRewriting.{PlainRewriting}
use Rattle.catalog_core.specs.Named.{file_at, bytes_named}
use Rattle.plan_choice.specs.Leaving.{leaving_out}
use Rattle.plan_choice.specs.Taken.{IsTaken}
use Rattle.planning.specs.Running.{Run}
use Rattle.later_states.specs.Later.{AreFree}
use Rattle.folder.specs.Sound.{Care}
use Rattle.folder.specs.State.{State, table}
use Rattle.work_turns.specs.Turns.{IsLost}
use Rattle.job_turns.specs.Jobs.{HaveOneOf}
use Rattle.job_turns.specs.Turns.{Turns}

-- A job: its name; the plan that it was opened with, and what that is stored as when it is closed, with the extents of its opening;
-- the plan's normal form; the rewriting that it has of this, and the ids of the kept results that the rewriting reads; how many of
-- its files are read; the ids of the kept results whose files showed damage when it read them; and the bytes that it took before it
-- had this rewriting.
pub record Job : Type 0 where
  pub name : List ℕ
  pub run : Run
  pub normal : PlainPlan
  pub rewriting : PlainRewriting
  pub used : List ℕ
  pub done : ℕ
  pub noted : List ℕ
  pub before : ℕ

-- how many files it reads, each as often as it is named; how many of them are left, and which
abbrev pub steps_of : Job → ℕ
steps_of job = length (files_of job.rewriting)

abbrev pub left_of : Job → ℕ
left_of job = steps_of job - job.done

abbrev pub files_left : Job → List FileName
files_left job = drop job.done (files_of job.rewriting)

-- the bytes of those that are read
abbrev pub bytes_read : State → Job → ℕ
bytes_read s job = bytes_named (table s) (files_of job.rewriting) - bytes_named (table s) (files_left job)

-- so many of its files are read
abbrev pub read_to : ℕ → Job → Job
read_to done job = record job { done = done }

-- one more of them, or none where none is left
abbrev pub stepped : Job → Job
stepped job = read_to (min (job.done + 1) (steps_of job)) job

-- The next file is that of a kept result and shows damage. The result is noted, and the job has a least rewriting without those that
-- are noted, of which no file is read. The bytes of the files that it read count before, and those that this one gave.
pub record NotesNext (care : Care) (s : State) (old new : Job) : Type 0 where
  pub id : ℕ
  pub others : List FileName
  pub next : files_left old ≡ Result id ∷ others
  pub shown : IsLost care s id
  pub given : ℕ
  pub few : given ≤ (file_at (table s) (Result id)).len
  pub taken : IsTaken (leaving_out (old.noted ++ id ∷ []) (table s)) old.run.plan old.normal old.run.program.cuts new.rewriting
  pub used : AreIdsOf (files_of new.rewriting) new.used
  pub is : new ≡ record old { rewriting = new.rewriting; used = new.used; done = 0; noted = old.noted ++ id ∷ []; before = capped (old.before + bytes_read s old + given) }

-- Some of its files are read. Where one is that of a kept result and shows damage, the result is noted, and the job goes on with the
-- files of a least rewriting without those that are noted.
pub record GoesOn (care : Care) (s : State) (old new : Job) : Type 0 where
  pub ids : List ℕ
  pub shown : AllByRecursion (IsLost care s) ids
  pub bytes : ℕ
  pub turns : Turns true (table s) old.run.plan old.normal old.run.program.cuts old.noted old.rewriting (files_left old) ids new.rewriting (files_left new) bytes
  pub used : AreIdsOf (files_of new.rewriting) new.used
  pub within : new.done ≤ steps_of new
  pub is : new ≡ record old { rewriting = new.rewriting; used = new.used; done = new.done; noted = old.noted ++ ids; before = capped (old.before + bytes) }

-- The same job where these kept results are dropped: it has a least rewriting without them and without those that it noted, of which
-- no file is read. The bytes of the files that it read count before.
pub record IsChosenAgain (s : State) (dropped : List ℕ) (old new : Job) : Type 0 where
  pub taken : IsTaken (leaving_out (old.noted ++ dropped) (table s)) old.run.plan old.normal old.run.program.cuts new.rewriting
  pub used : AreIdsOf (files_of new.rewriting) new.used
  pub is : new ≡ record old { rewriting = new.rewriting; used = new.used; done = 0; before = capped (old.before + bytes_read s old) }

-- So it is where its rewriting reads one of them; where it reads none the job stays.
abbrev pub IsLeft : State → List ℕ → Job → Job → Type 0
IsLeft s dropped old new = (AreFree old.used dropped × (new ≡ old)) ⊎ (HaveOneOf old.used dropped × IsChosenAgain s dropped old new)
