-- One step of a job: a file is read, or the kept result that it is of is noted.
use Rattle.std.specs.Prelude.{◌≡◌, ◌⊎◌, ℕ, ◌+◌, ◌≤◌, Bool, List, [], ◌∷◌, ◌++◌, Option, None, Some, IsTrue}
use Rattle.extent_files.specs.declared.read_refusal.ReadRefusal.{ReadRefusal}
use Rattle.extent_files.specs.declared.read_refusal.ReadRefusal.TheVariants as read
use Rattle.outside_traits.specs.View.{Counts}
use Rattle.outside_traits.specs.Calls.{CountsTaken}
use Rattle.plan_core.specs.PlainPlan.{PlainPlan}
use Rattle.estimator.specs.Bytes.{capped}
use Rattle.rewrite_core.specs.Files.{FileName, Extent, Result}
use Rattle.catalog_core.specs.Named.{file_at}
use Rattle.catalog_core.specs.Table.{Table}
use Rattle.work_run.specs.Opened.{IsSameWork, files_left}
use Rattle.job_turns.specs.Jobs.{IsFresh, bytes_read}
use Rattle.job_turns.specs.declared.job.JobWork.{JobWork}
use Rattle.job_turns.specs.declared.job.JobStep.{JobStep}
use Rattle.job_turns.specs.declared.job.JobStep.TheVariants as step

-- how many bytes a damaged or unreadable file gave
abbrev pub given_of : ReadRefusal → Option ℕ
given_of read.Fault = None
given_of (read.Damaged file kept found taken) = Some taken
given_of (read.Unreadable file at taken) = Some taken
given_of read.Memory = None

-- nothing is read, noted or chosen
pub record IsAsBefore (old new : JobWork) : Type 0 where
  pub same : IsSameWork old.work new.work
  pub parts : new.work.job.parts.items ≡ old.work.job.parts.items
  pub taken : new.work.job.taken ≡ old.work.job.taken
  pub normal : new.normal ≡ old.normal
  pub noted : new.noted ≡ old.noted
  pub before : new.before ≡ old.before

-- the next file is read, and nothing else changes
pub record ReadsOne (old new : JobWork) : Type 0 where
  pub name : FileName
  pub next : files_left old.work ≡ name ∷ files_left new.work
  pub same : IsSameWork old.work new.work
  pub normal : new.normal ≡ old.normal
  pub noted : new.noted ≡ old.noted
  pub before : new.before ≡ old.before

-- This kept result is noted, and a least rewriting is taken without it and those that were noted before. The bytes of the files
-- that were read are counted before, and those that the result's file gave.
pub record Notes (t : Table) (plan : PlainPlan) (id given : ℕ) (old new : JobWork) : Type 0 where
  pub normal : new.normal ≡ old.normal
  pub noted : new.noted.items ≡ old.noted.items ++ id ∷ []
  pub fresh : IsFresh t new.noted.items plan old.normal.plan old.work.program new.work
  pub before : new.before ≡ capped (old.before + bytes_read t old.work + given)

-- the next file is that of this kept result, which is noted
pub record NotesNext (t : Table) (plan : PlainPlan) (id given : ℕ) (old new : JobWork) : Type 0 where
  pub others : List FileName
  pub next : files_left old.work ≡ Result id ∷ others
  pub notes : Notes t plan id given old new

-- why it isn't noted: it shows nothing of the file's bytes, or that is an extent's
abbrev pub IsNotLost : List FileName → ReadRefusal → Type 0
IsNotLost left why = (given_of why ≡ None) ⊎ ((stream : ℕ) × (number : ℕ) × (others : List FileName) × (left ≡ Extent stream number ∷ others))

-- the bytes that its file gave were taken, and are no more than it has where the store tells its files
pub record NotesTaken (tells : Bool) (t : Table) (plan : PlainPlan) (id : ℕ) (old new : JobWork) (first last : Counts) : Type 0 where
  pub given : ℕ
  pub notes : NotesNext t plan id given old new
  pub few : IsTrue tells → given ≤ (file_at t (Result id)).len
  pub took : CountsTaken given first last

abbrev pub IsStep : Bool → Table → PlainPlan → JobWork → JobWork → Counts → Counts → JobStep → Type 0
IsStep tells t plan old new first last step.Read = ReadsOne old new
IsStep tells t plan old new first last (step.Noted id) = NotesTaken tells t plan id old new first last
