-- Reading the files of a job, one after another: what was read, what was taken, and why it ended early.
use Rattle.std.specs.Prelude.{◌≡◌, ◌≢◌, ℕ, ◌+◌, ◌-◌, ◌^◌, ◌≤◌, min, List, [], ◌∷◌, ◌++◌, length, take, sum_by, Contains, IsTrue, ⊤}
use Rattle.rows_core.specs.declared.file_ref.FileRef.{FileRef}
use Rattle.row_blob.specs.Spelling.{kept_spelling}
use Rattle.row_blob.specs.declared.shape.Shape.{Shape}
use Rattle.outside_traits.specs.Counts.{Rose}
use Rattle.outside_traits.specs.View.{Counts}
use Rattle.outside_traits.specs.Calls.{CountsTaken, MayRaiseReads}
use Rattle.extent_files.specs.Files.{digest_of}
use Rattle.extent_files.specs.Reads.{SpellsNone, HasCause, FoundIn}
use Rattle.extent_files.specs.declared.read_refusal.ReadRefusal.{ReadRefusal}
use Rattle.extent_files.specs.declared.read_refusal.ReadRefusal.TheVariants as read
use Rattle.plan_core.specs.PlainPlan.{PlainPlan, Scan}
use Rattle.plan_core.specs.PlanTyping.{Kinds}
use Rattle.plan_laws.specs.PlanShape.{plan_shape}
use Rattle.rewrite_core.specs.Files.{FileName, Extent, Result}
use Rattle.growth_laws.specs.KeptResults.{KeptResults}
use Rattle.growth_laws.specs.Lists.{Extents}
use Rattle.growth_laws.specs.Pieces.{Piece, Entry}
use Rattle.executor.specs.Progress.{left_in, ArePartsOf, HaveRead}
use Rattle.executor.specs.Sources.{Sources, HoldFiles, form_of}
use Rattle.executor.specs.declared.part.Part.{Part}

-- ---- the bytes that were taken

-- how many bytes what a named file holds is spelled in
abbrev pub held_bytes : Extents → KeptResults → FileName → ℕ
held_bytes extents results name = length (kept_spelling (form_of extents results name))

-- what these files hold was taken, each as often as it is named
abbrev pub HaveTaken : Extents → KeptResults → List FileName → Counts → Counts → Type 0
HaveTaken extents results [] old new = new.taken ≡ old.taken
HaveTaken extents results (name ∷ names) old new = CountsTaken (sum_by (held_bytes extents results) (name ∷ names)) old new

abbrev pub TookAtMost : ℕ → Counts → Counts → Type 0
TookAtMost most old new = new.taken ≤ old.taken + most

abbrev pub TookAtLeast : ℕ → Counts → Counts → Type 0
TookAtLeast least old new = min (old.taken + least) (2 ^ 64 - 1) ≤ new.taken

-- how many bytes of these files count
abbrev pub kept_bytes : (FileName → FileRef) → List FileName → ℕ
kept_bytes places = sum_by (λ name. (places name).len)

-- ---- files that are read

-- The files of these names were read, the first ones that were left: where the files hold the pieces, what these hold is
-- read, and was taken once.
pub record ReadsOn (from : Sources) (before after : List Part) (old new : Counts) : Type 0 where
  pub names : List FileName
  pub left : left_in before ≡ names ++ left_in after
  pub parts : (pieces : List Piece) → ArePartsOf from.schemas pieces before → ArePartsOf from.schemas pieces after
  pub read : (extents : Extents) (results : KeptResults) (pieces : List Piece) → HoldFiles from extents results pieces → ArePartsOf from.schemas pieces before
      → HaveRead from.schemas extents results pieces before → HaveRead from.schemas extents results pieces after × HaveTaken extents results names old new
  pub most : IsTrue from.tells → TookAtMost (kept_bytes from.places names) old new
  pub no_fault : new.reads ≡ old.reads
  pub counts : MayRaiseReads old new

-- ---- why it ended early

-- the first bytes of a named file, as many as count
abbrev pub bytes_of : Sources → FileName → List ℕ
bytes_of from name = take (from.places name).len (from.files (from.places name).file)

-- files were read, the first ones that were left, and then the next one wasn't
pub record StopsAt (from : Sources) (before after : List Part) (old new : Counts) (why : ReadRefusal) : Type 0 where
  pub half : Counts
  pub read : ReadsOn from before after old half
  pub name : FileName
  pub others : List FileName
  pub next : left_in after ≡ name ∷ others
  pub cause : HasCause (from.places name) half new why
  pub found : IsTrue from.tells → (shape : Shape) × FoundIn shape (from.places name) (bytes_of from name) half new why

-- one of these files, and this is its number
abbrev pub IsFileAmong : (FileName → FileRef) → List FileName → ℕ → FileName → Type 0
IsFileAmong places names file name = Contains names name × (file ≡ (places name).file)

-- on every store; at least the bytes that are told were taken
abbrev pub EndsBy : (FileName → FileRef) → List FileName → Counts → Counts → ReadRefusal → Type 0
EndsBy places names old new read.Fault = Rose old.reads new.reads
EndsBy places names old new (read.Damaged file kept found taken) =
    (name : FileName) × IsFileAmong places names file name × (kept ≡ (places name).digest) × (found ≢ (places name).digest)
    × (new.reads ≡ old.reads) × TookAtLeast taken old new
EndsBy places names old new (read.Unreadable file at taken) =
    (name : FileName) × IsFileAmong places names file name × (new.reads ≡ old.reads) × TookAtLeast taken old new
EndsBy places names old new read.Memory = new.reads ≡ old.reads

-- the shape of what a named file should hold: rows of a stream, or what is kept of the plan of a piece
abbrev pub IsShapeOf : List Kinds → List Piece → FileName → Shape → Type 0
IsShapeOf schemas pieces (Extent stream number) shape = shape ≡ plan_shape schemas (Scan stream)
IsShapeOf schemas pieces (Result id) shape = (plan : PlainPlan) × Contains pieces (Entry plan id) × (shape ≡ plan_shape schemas plan)

-- where the store tells its files
abbrev pub EndsOver : Sources → List Piece → List FileName → ReadRefusal → Type 0
EndsOver from pieces names read.Fault = ⊤
EndsOver from pieces names (read.Damaged file kept found taken) =
    (name : FileName) × IsFileAmong from.places names file name × (kept ≡ (from.places name).digest) × (found ≡ digest_of (bytes_of from name))
    × (taken ≡ length (bytes_of from name))
EndsOver from pieces names (read.Unreadable file at taken) =
    (name : FileName) × (shape : Shape) × IsFileAmong from.places names file name × IsShapeOf from.schemas pieces name shape
    × (digest_of (bytes_of from name) ≡ (from.places name).digest) × SpellsNone shape (bytes_of from name) at × (taken ≡ length (bytes_of from name))
EndsOver from pieces names read.Memory = ⊤
