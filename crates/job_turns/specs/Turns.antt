-- Turns of a job: each but the last ended at the file of a kept result, and in the next one a rewriting is read that was taken
-- without it.
use Rattle.std.specs.Prelude.{◌≡◌, ℕ, ◌+◌, ◌≤◌, Bool, List, [], ◌∷◌, ◌++◌, Option, None, Some, IsTrue}
use Rattle.std.specs.List.{AllByRecursion}
use Rattle.outside_traits.specs.View.{View, Counts}
use Rattle.plan_core.specs.PlainPlan.{PlainPlan}
use Rattle.estimator.specs.Bytes.{capped}
use Rattle.estimator.specs.Cuts.{Cuts}
use Rattle.rewrite_core.specs.Files.{FileName, Result, files_of}
use Rattle.rewrite_core.specs.PlainRewriting.{PlainRewriting}
use Rattle.growth_laws.specs.Pieces.{pieces_of}
use Rattle.catalog_core.specs.Named.{file_at, bytes_named}
use Rattle.catalog_core.specs.Table.{Table}
use Rattle.entry_table.specs.Ids.{is_there, without}
use Rattle.executor.specs.Running.{TookAtMost}
use Rattle.executor.specs.Runs.{HasRunCause, IsRunFound, IsOfExtent}
use Rattle.executor.specs.declared.refusal.RunRefusal.{RunRefusal}
use Rattle.folder.specs.Left.{IsLeft}
use Rattle.folder.specs.Sound.{Care}
use Rattle.folder.specs.State.{State, table}
use Rattle.plan_choice.specs.Leaving.{leaving_out}
use Rattle.plan_choice.specs.Taken.{IsTaken}
use Rattle.work_run.specs.Ends.{CountsRead, IsRefusedWork, sources_of}
use Rattle.work_run.specs.Opened.{HasRead, files_left, opened_rewriting}
use Rattle.work_turns.specs.Turns.{IsLost}
use Rattle.job_turns.specs.Jobs.{bytes_read}
use Rattle.job_turns.specs.declared.job.JobWork.{JobWork}

-- Reading of these files, the last ones that the rewriting names, ended at that of this result. So many bytes count of the
-- rewriting, which are those of all files before it and what this one gave.
pub record EndsAt (tells : Bool) (t : Table) (r : PlainRewriting) (left : List FileName) (id bytes : ℕ) : Type 0 where
  pub before : List FileName
  pub others : List FileName
  pub names : files_of r ≡ before ++ Result id ∷ others
  pub more : List FileName
  pub here : left ≡ more ++ Result id ∷ others
  pub given : ℕ
  pub few : IsTrue tells → given ≤ (file_at t (Result id)).len
  pub bytes_are : bytes ≡ bytes_named t before + given

-- From a rewriting, of which these files were left, to another, of which those are: none was noted, and some of the files were
-- read; or reading ended at the file of this result, and it went on by a least rewriting without it. So many bytes count of the
-- turns that ended.
abbrev pub Turns : Bool → Table → PlainPlan → PlainPlan → Cuts → List ℕ → PlainRewriting → List FileName → List ℕ → PlainRewriting → List FileName → ℕ → Type 0
Turns tells t plan form cuts noted r left [] last last_left bytes =
    (names : List FileName) × (last ≡ r) × (left ≡ names ++ last_left) × (bytes ≡ 0)
Turns tells t plan form cuts noted r left (id ∷ ids) last last_left bytes =
    (first : ℕ) × (rest : ℕ) × (next : PlainRewriting) × EndsAt tells t r left id first
    × IsTaken (leaving_out (noted ++ id ∷ []) t) plan form cuts next
    × Turns tells t plan form cuts (noted ++ id ∷ []) next (files_of next) ids last last_left rest × (bytes ≡ first + rest)

-- The job went on from the old to the new: these results were noted in turns, whose bytes are counted before. So many bytes
-- belong to what was read: they are those of the turns and of the files that are read now, but for those that were read.
pub record GoesOn (tells : Bool) (t : Table) (plan : PlainPlan) (old new : JobWork) : Type 0 where
  pub program : new.work.program ≡ old.work.program
  pub normal : new.normal ≡ old.normal
  pub ids : List ℕ
  pub noted : new.noted.items ≡ old.noted.items ++ ids
  pub bytes : ℕ
  pub turns : Turns tells t plan old.normal.plan old.work.program.cuts old.noted.items (opened_rewriting old.work) (files_left old.work) ids (opened_rewriting new.work) (files_left new.work) bytes
  pub before : new.before ≡ capped (old.before + bytes)
  pub passed : ℕ
  pub passed_is : passed + bytes_read t old.work ≡ bytes + bytes_read t new.work

-- how many bytes the next file has, if there is one
abbrev pub next_len : Table → List FileName → ℕ
next_len t [] = 0
next_len t (name ∷ names) = (file_at t name).len

-- ---- with what was taken

-- So, with no more than these bytes taken. Over the files of a state what they hold is read, those of noted results show damage,
-- and the bytes were taken.
pub record Reads (tells : Bool) (t : Table) (view : View) (plan : PlainPlan) (old new : JobWork) (first last : Counts) : Type 0 where
  pub on : GoesOn tells t plan old new
  pub most : IsTrue tells → TookAtMost on.passed first last
  pub over : IsTrue tells → (care : Care) (s : State) → IsLeft care view s s → t ≡ table s → HasRead s old.work
      → HasRead s new.work × AllByRecursion (IsLost care s) on.ids × CountsRead on.passed first last
  pub no_fault : last.reads ≡ first.reads

-- It went on so and was refused: no more was taken than these bytes and those of the next file. The store failed, or the file of an
-- extent that its rewriting names isn't what was kept of it, or its rows can't be made.
pub record Halts (tells : Bool) (t : Table) (view : View) (plan : PlainPlan) (old new : JobWork) (first last : Counts) (why : RunRefusal) : Type 0 where
  pub on : GoesOn tells t plan old new
  pub most : IsTrue tells → TookAtMost (on.passed + next_len t (files_left new.work)) first last
  pub over : IsTrue tells → (care : Care) (s : State) → IsLeft care view s s → t ≡ table s → HasRead s old.work
      → HasRead s new.work × AllByRecursion (IsLost care s) on.ids × IsRefusedWork care s plan old.work.program.cuts why
  pub cause : HasRunCause (file_at t) (files_of (opened_rewriting new.work)) first last why
  pub of_extent : IsOfExtent (file_at t) (opened_rewriting new.work) why
  pub found : IsTrue tells → IsRunFound (sources_of t view.files) (pieces_of (opened_rewriting new.work)) (files_of (opened_rewriting new.work)) why

-- where all files are read none was noted last; or this result was, which was there
abbrev pub IsTurnEnd : Table → JobWork → JobWork → Option ℕ → Type 0
IsTurnEnd t old new None = files_left new.work ≡ []
IsTurnEnd t old new (Some id) = IsTrue (is_there (without old.noted.items t.entries) id) × (new.noted.items ≡ old.noted.items ++ id ∷ [])
