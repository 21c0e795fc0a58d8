-- What the file of a kept result holds, and what reading it gives.
use Rattle.std.specs.Prelude.{◌≡◌, ℕ, ◌-◌, List, length, take, Option, None, Some, Bool, IsTrue}
use Rattle.rows_core.specs.declared.file_ref.FileRef.{FileRef}
use Rattle.row_blob.specs.Kept.{IsKept}
use Rattle.row_blob.specs.Spelling.{kept_spelling}
use Rattle.row_blob.specs.declared.kept.Kept.{Kept}
use Rattle.row_blob.specs.declared.shape.Shape.{Shape}
use Rattle.outside_traits.specs.View.{Counts}
use Rattle.outside_traits.specs.Calls.{CountsTaken}
use Rattle.extent_files.specs.Files.{digest_of}
use Rattle.plan_core.specs.PlainPlan.{PlainPlan}
use Rattle.result_ops.specs.declared.made.Made.{Made}
use Rattle.result_ops.specs.Bounds.{IsBounded}

-- A form that a read of this file may give: it is of the shape, and has the kept digest as a file; where the store tells its
-- files, the first bytes of the one named spell it.
pub record MayBeRead (tells : Bool) (shape : Shape) (at : FileRef) (file : List ℕ) (form : Kept) : Type 0 where
  pub of_shape : IsKept shape form
  pub digest : digest_of (kept_spelling form) ≡ at.digest
  pub spelled : IsTrue tells → take at.len file ≡ kept_spelling form

-- no other form may be read of it
abbrev pub HoldsOnly : Bool → Shape → FileRef → List ℕ → Kept → Type 0
HoldsOnly tells shape at file form = (read : Kept) → MayBeRead tells shape at file read → read ≡ form

-- this form, with the machine time that is kept beside it; or it lies outside of the bounds within which it is worked on
abbrev pub IsOfForm : PlainPlan → Kept → ℕ → Option Made → Type 0
IsOfForm plan form machine (Some made) = (made.kept ≡ form) × (made.taken_in ≡ machine - 1)
IsOfForm plan form machine None = IsBounded plan form → ⊥

-- what is loaded is of a form that may be read of the file, whose bytes were taken once
pub record LoadsEntry (tells : Bool) (plan : PlainPlan) (shape : Shape) (at : FileRef) (file : List ℕ) (machine : ℕ) (old new : Counts) (loaded : Option Made) : Type 0 where
  pub form : Kept
  pub read : MayBeRead tells shape at file form
  pub made : IsOfForm plan form machine loaded
  pub taken : CountsTaken (length (kept_spelling form)) old new
