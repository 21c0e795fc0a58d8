-- What the files hold that rewritings over a state's kept results name.
use Rattle.std.specs.Prelude.{◌≡◌, ℕ, ◌==◌, ◌≤◌, List, [], ◌∷◌, length, take, slice_get, unwrap_or, Some, Result, Ok, Err}
use Rattle.std.specs.List.{Contains, find}
use Rattle.std.specs.Option.{option_map}
use Rattle.rows_core.specs.declared.cut.Cut.{Cut}
use Rattle.rows_core.specs.declared.file_ref.FileRef.{FileRef}
use Rattle.rows_core.specs.declared.overflow.Overflow.{Overflow}
use Rattle.row_blob.specs.Spelling.{kept_spelling}
use Rattle.row_blob.specs.declared.kept.Kept.{Kept}
use Rattle.row_blob.specs.declared.kept.Kept.TheVariants as kept
use Rattle.row_blob.specs.declared.shape.Shape.{Shape}
use Rattle.extent_files.specs.Files.{digest_of}
use Rattle.extent_files.specs.Reads.{Spells}
use Rattle.plan_core.specs.Columns.{Rows}
use Rattle.plan_core.specs.PlainPlan.{Scan, leaves}
use Rattle.plan_laws.specs.KeptForm.{kept_form}
use Rattle.plan_laws.specs.PlanShape.{plan_shape}
use Rattle.growth_laws.specs.KeptResults.{KeptResult, KeptResults}
use Rattle.growth_laws.specs.Lists.{extents_of}
use Rattle.growth_laws.specs.Pieces.{Piece, Entry, Gathered}
use Rattle.catalog_types.specs.PlainEntry.{PlainEntry}
use Rattle.folder.specs.State.{Extent, Stream, State, kinds_in, extents_in, lists_in}

-- ---- the kept results by their ids

-- a result that is an overflow isn't kept
abbrev pub form_of : Result Kept Overflow → Kept
form_of (Ok form) = form
form_of (Err e) = kept.Rows []

abbrev pub result_of : List Stream → PlainEntry → KeptResult
result_of streams e = record { form = form_of (kept_form e.plan (lists_in streams e.plan e.cuts)); machine = e.machine }

abbrev pub no_result : KeptResult
no_result = record { form = kept.Rows []; machine = 0 }

-- of the first entry with the id
abbrev pub results_in : State → KeptResults
results_in s id = unwrap_or (option_map (result_of s.streams) (find (λ e. e.id == id) s.entries)) no_result

-- ---- pieces

-- the piece is a kept result of the state, or extents of one of its streams that are there
abbrev pub IsPieceIn : State → Piece → Type 0
IsPieceIn s (Entry plan id) = (e : PlainEntry) × Contains s.entries e × (e.plan ≡ plan) × (e.id ≡ id)
IsPieceIn s (Gathered plan cuts) =
    (stream : ℕ) × (cut : Cut) × (leaves plan ≡ stream ∷ []) × (cuts ≡ cut ∷ []) × (cut.to ≤ length (extents_of (extents_in s.streams) stream))

-- the rows of the extent of that number
abbrev pub extent_rows : State → ℕ → ℕ → Rows
extent_rows s stream number = unwrap_or (slice_get (extents_of (extents_in s.streams) stream) number) []

-- ---- files

-- a form of this shape that the file's first bytes spell, as many as count, in bytes of the kept digest, is this one
abbrev pub SpellsOnly : Shape → FileRef → List ℕ → Kept → Type 0
SpellsOnly shape at file form =
    (read : Kept) → Spells shape (take at.len file) read → digest_of (kept_spelling read) ≡ at.digest → read ≡ form

-- the file of a stream's extent holds its rows
pub record HoldsExtent (files : ℕ → List ℕ) (s : State) (place number : ℕ) : Type 0 where
  pub stream : Stream
  pub extent : Extent
  pub at_place : slice_get s.streams place ≡ Some stream
  pub numbered : slice_get stream.extents number ≡ Some extent
  pub only : SpellsOnly (plan_shape (kinds_in s.streams) (Scan place)) extent.file (files extent.file.file) (kept.Rows (extent_rows s place number))

-- the file of a kept result holds its form, and its machine time is kept beside it
pub record HoldsResult (files : ℕ → List ℕ) (s : State) (e : PlainEntry) : Type 0 where
  pub only : SpellsOnly (plan_shape (kinds_in s.streams) e.plan) e.file (files e.file.file) (results_in s e.id).form
  pub machine : e.machine ≡ (results_in s e.id).machine
