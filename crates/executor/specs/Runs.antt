-- Why a run of a rewriting gives no outcome.
use Rattle.std.specs.Prelude.{◌≡◌, ◌≢◌, ℕ, ◌+◌, ◌≤◌, List, ◌∷◌, ◌++◌, sum_by, Option, None, Some, Result as Outcomes, Ok, Err, IsTrue, ⊤}
use Rattle.rows_core.specs.declared.file_ref.FileRef.{FileRef}
use Rattle.outside_traits.specs.View.{Counts}
use Rattle.extent_files.specs.declared.read_refusal.ReadRefusal.{ReadRefusal}
use Rattle.extent_files.specs.declared.read_refusal.ReadRefusal.TheVariants as read
use Rattle.result_ops.specs.declared.refusal.MakeRefusal.{MakeRefusal}
use Rattle.result_ops.specs.declared.refusal.MakeRefusal.TheVariants as made
use Rattle.outside_traits.specs.Calls.{CountsTaken}
use Rattle.estimator.specs.Bytes.{capped}
use Rattle.rewrite_core.specs.Files.{FileName, Extent, Result, files_of}
use Rattle.rewrite_core.specs.PlainRewriting.{PlainRewriting}
use Rattle.growth_laws.specs.KeptResults.{KeptResults}
use Rattle.growth_laws.specs.Lists.{Extents}
use Rattle.growth_laws.specs.Pieces.{Piece, pieces_of}
use Rattle.executor.specs.Outcomes.{Finishes}
use Rattle.executor.specs.Running.{EndsBy, EndsOver, IsFileAmong, HaveTaken, held_bytes, kept_bytes}
use Rattle.executor.specs.Sources.{Sources, HoldFiles}
use Rattle.executor.specs.declared.outcome.Outcome.{Outcome}
use Rattle.executor.specs.declared.refusal.EndedRun.{EndedRun}
use Rattle.executor.specs.declared.refusal.LostResult.{LostResult}
use Rattle.executor.specs.declared.refusal.RunRefusal.{RunRefusal}
use Rattle.executor.specs.declared.refusal.RunRefusal.TheVariants as run

abbrev pub of_reading : ReadRefusal → RunRefusal
of_reading read.Fault = run.Fault
of_reading (read.Damaged file kept found taken) = run.Damaged file kept found taken
of_reading (read.Unreadable file at taken) = run.Unreadable file at taken
of_reading read.Memory = run.Memory

abbrev pub of_making : MakeRefusal → RunRefusal
of_making made.Overflow = run.Overflow
of_making made.Machine = run.Machine
of_making made.Memory = run.Memory

-- the store failed, or one of these files isn't what was kept of it; nothing else is seen of the outside
abbrev pub HasRunCause : (FileName → FileRef) → List FileName → Counts → Counts → RunRefusal → Type 0
HasRunCause places names old new run.Fault = EndsBy places names old new read.Fault
HasRunCause places names old new (run.Damaged file kept found taken) = EndsBy places names old new (read.Damaged file kept found taken)
HasRunCause places names old new (run.Unreadable file at taken) = EndsBy places names old new (read.Unreadable file at taken)
HasRunCause places names old new _ = new.reads ≡ old.reads

-- where the store tells its files, by the bytes of that file
abbrev pub IsRunFound : Sources → List Piece → List FileName → RunRefusal → Type 0
IsRunFound from pieces names (run.Damaged file kept found taken) = EndsOver from pieces names (read.Damaged file kept found taken)
IsRunFound from pieces names (run.Unreadable file at taken) = EndsOver from pieces names (read.Unreadable file at taken)
IsRunFound from pieces names _ = ⊤

-- ---- the file at which it ended

-- it is this file, whose bytes aren't the kept ones, or spell nothing
abbrev pub IsOfFile : FileRef → RunRefusal → Type 0
IsOfFile at (run.Damaged file kept found taken) = (file ≡ at.file) × (kept ≡ at.digest) × (found ≢ at.digest)
IsOfFile at (run.Unreadable file place taken) = file ≡ at.file
IsOfFile at _ = ⊥

-- It is the file of a kept result, behind others that were read whole. So many bytes count of those, and it gave others.
pub record LosesResult (from : Sources) (r : PlainRewriting) (old new : Counts) (why : RunRefusal) (lost : LostResult) : Type 0 where
  pub before : List FileName
  pub others : List FileName
  pub names : files_of r ≡ before ++ Result lost.id ∷ others
  pub of_file : IsOfFile (from.places (Result lost.id)) why
  pub given : ℕ
  pub taken_is : lost.taken ≡ capped (kept_bytes from.places before + given)
  pub few : IsTrue from.tells → given ≤ (from.places (Result lost.id)).len
  pub took : (extents : Extents) (results : KeptResults) → HoldFiles from extents results (pieces_of r) → CountsTaken (sum_by (held_bytes extents results) before + given) old new
  pub no_fault : new.reads ≡ old.reads

-- it is the file of an extent, where it is one's
abbrev pub IsOfExtent : (FileName → FileRef) → PlainRewriting → RunRefusal → Type 0
IsOfExtent places r (run.Damaged file kept found taken) = (stream number : ℕ) × IsFileAmong places (files_of r) file (Extent stream number)
IsOfExtent places r (run.Unreadable file at taken) = (stream number : ℕ) × IsFileAmong places (files_of r) file (Extent stream number)
IsOfExtent places r _ = ⊤

abbrev pub EndsAt : Sources → PlainRewriting → Counts → Counts → RunRefusal → Option LostResult → Type 0
EndsAt from r old new why None = IsOfExtent from.places r why
EndsAt from r old new why (Some lost) = LosesResult from r old new why lost

-- ---- over files that hold what a state has

-- it was finished, and what the rewriting's files hold was taken
abbrev pub Ends : Extents → KeptResults → PlainRewriting → Counts → Counts → Outcomes Outcome MakeRefusal → Type 0
Ends extents results r old new result = Finishes extents results r result × HaveTaken extents results (files_of r) old new

-- it wasn't, by what the plan means
abbrev pub EndsEarly : Extents → KeptResults → PlainRewriting → Counts → Counts → RunRefusal → Type 0
EndsEarly extents results r old new run.Overflow = Ends extents results r old new (Err made.Overflow)
EndsEarly extents results r old new run.Machine = Ends extents results r old new (Err made.Machine)
EndsEarly extents results r old new _ = ⊤

-- over files that hold these extents and kept results
abbrev pub Runs : Extents → KeptResults → PlainRewriting → Counts → Counts → Outcomes Outcome EndedRun → Type 0
Runs extents results r old new (Ok outcome) = Ends extents results r old new (Ok outcome)
Runs extents results r old new (Err ended) = EndsEarly extents results r old new ended.why
