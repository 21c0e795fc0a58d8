-- What undecoded bytes of a file show.
use Rattle.std.proofs.Common.{◌≡◌, ◌∙◌, ℕ, List, length, sym, ap, subst, inr}
use Rattle.rows_core.specs.declared.file_ref.FileRef.{FileRef}
use Rattle.row_blob.specs.Kept.{IsKept}
use Rattle.row_blob.specs.Place.{StopsAt, IsPlace}
use Rattle.row_blob.specs.Spelling.{kept_spelling}
use Rattle.row_blob.specs.declared.kept.Kept.{Kept}
use Rattle.row_blob.specs.declared.refusal.BlobRefusal.{BlobRefusal}
use Rattle.row_blob.specs.declared.refusal.BlobRefusal.TheVariants as of_blob
use Rattle.row_blob.specs.declared.shape.Shape.{Shape}
use Rattle.outside_traits.specs.View.{Counts}
use Rattle.outside_traits.specs.Calls.{CountsTaken}
use Rattle.extent_files.specs.Files.{digest_of}
use Rattle.extent_files.specs.Reads.{FoundIn}
use Rattle.extent_files.specs.Refusals.{blob_as}

-- the bytes that were read are the file's first ones, and so many were taken
pub undecoded : (shape : Shape) (at : FileRef) (bytes read : List ℕ) (taken : ℕ) (old new : Counts) (r : BlobRefusal) → taken ≡ length read → read ≡ bytes → digest_of read ≡ at.digest
    → CountsTaken (length read) old new → IsPlace shape read r → ((kept : Kept) → IsKept shape kept → read ≡ kept_spelling kept → r ≡ of_blob.Memory)
    → FoundIn shape at bytes old new (blob_as at.file taken r)
undecoded shape at bytes read taken old new (of_blob.NotBlob place) count is digest now stops only = (
  ap digest_of (sym is) ∙ digest,
  (λ kept spells. absurd (let h = only kept spells.0 (is ∙ spells.1) in cc), subst (λ (l : List ℕ). StopsAt shape l place) is stops),
  count ∙ ap length is,
)
undecoded shape at bytes read taken old new of_blob.Memory count is digest now stops only = inr (subst (λ (l : List ℕ). CountsTaken (length l) old new) is now)
