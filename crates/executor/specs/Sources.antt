-- What the files hold that a rewriting is read from.
use Rattle.std.specs.Prelude.{◌≡◌, ℕ, ◌≤◌, ◌<◌, List, [], ◌∷◌, slice_get, length, unwrap_or, Bool}
use Rattle.std.specs.List.{AllByRecursion}
use Rattle.rows_core.specs.declared.cut.Cut.{Cut}
use Rattle.rows_core.specs.declared.file_ref.FileRef.{FileRef}
use Rattle.row_blob.specs.Spelling.{kept_spelling}
use Rattle.row_blob.specs.declared.kept.Kept.{Kept}
use Rattle.row_blob.specs.declared.kept.Kept.TheVariants as kept
use Rattle.row_blob.specs.declared.shape.Shape.{Shape}
use Rattle.outside_traits.specs.View.{Counts}
use Rattle.outside_traits.specs.Calls.{CountsTaken}
use Rattle.plan_core.specs.Columns.{Rows}
use Rattle.plan_core.specs.PlainPlan.{Scan, leaves}
use Rattle.plan_core.specs.PlanTyping.{Kinds}
use Rattle.plan_laws.specs.PlanShape.{plan_shape}
use Rattle.rewrite_core.specs.Files.{FileName, Extent, Result}
use Rattle.growth_laws.specs.KeptResults.{KeptResults}
use Rattle.growth_laws.specs.Lists.{Extents, extents_of}
use Rattle.growth_laws.specs.Pieces.{Piece, Entry, Gathered}
use Rattle.executor.specs.Reads.{HoldsOnly}
use Rattle.executor.specs.Progress.{files_left, IsPartOf, HasRead}
use Rattle.executor.specs.declared.part.Part.{Part}

-- whether the store tells its files, what they read as, where each named one stands, the machine times, and the kinds of the
-- streams' columns
pub record Sources : Type 0 where
  pub tells : Bool
  pub files : ℕ → List ℕ
  pub places : FileName → FileRef
  pub machines : ℕ → ℕ
  pub schemas : List Kinds

-- no other form of this shape may be read of the named file
abbrev pub HoldsForm : Sources → FileName → Shape → Kept → Type 0
HoldsForm from name shape form = HoldsOnly from.tells shape (from.places name) (from.files (from.places name).file) form

-- the rows of a stream's extent
abbrev pub extent_rows : Extents → ℕ → ℕ → Rows
extent_rows extents stream number = unwrap_or (slice_get (extents_of extents stream) number) []

abbrev pub HoldsExtent : Sources → Extents → ℕ → ℕ → Type 0
HoldsExtent from extents stream number = HoldsForm from (Extent stream number) (plan_shape from.schemas (Scan stream)) (kept.Rows (extent_rows extents stream number))

-- a kept result's file holds its form, and the machine time is kept beside it; each extent's file in the one interval of a
-- gathered piece holds its rows
abbrev pub HoldsPiece : Sources → Extents → KeptResults → Piece → Type 0
HoldsPiece from extents results (Entry plan id) =
    HoldsForm from (Result id) (plan_shape from.schemas plan) (results id).form × (from.machines id ≡ (results id).machine)
HoldsPiece from extents results (Gathered plan cuts) =
    (stream : ℕ) → leaves plan ≡ stream ∷ [] → (cut : Cut) × (cuts ≡ cut ∷ [])
    × ((number : ℕ) → cut.from ≤ number → number < cut.to → HoldsExtent from extents stream number)

-- the files of a rewriting's pieces hold what these extents and kept results are
abbrev pub HoldFiles : Sources → Extents → KeptResults → List Piece → Type 0
HoldFiles from extents results = AllByRecursion (HoldsPiece from extents results)

-- what a named file holds
abbrev pub form_of : Extents → KeptResults → FileName → Kept
form_of extents results (Extent stream number) = kept.Rows (extent_rows extents stream number)
form_of extents results (Result id) = (results id).form

-- those of a store, and of what tells where its files stand
abbrev pub sources : Bool → (ℕ → List ℕ) → (FileName → FileRef) → (ℕ → ℕ) → List Kinds → Sources
sources tells files places machines schemas = record { tells = tells; files = files; places = places; machines = machines; schemas = schemas }

-- what a file holds was taken once
abbrev pub HasTaken : Extents → KeptResults → FileName → Counts → Counts → Type 0
HasTaken extents results name old new = CountsTaken (length (kept_spelling (form_of extents results name))) old new

-- where the files hold the piece, what its next one holds is read
abbrev pub HasReadNext : Sources → Extents → KeptResults → Piece → Part → Part → Counts → Counts → Type 0
HasReadNext from extents results piece before after old new =
    (name : FileName) (others : List FileName) → files_left before ≡ name ∷ others → HoldsPiece from extents results piece → IsPartOf from.schemas piece before
    → HasRead from.schemas extents results piece before → HasRead from.schemas extents results piece after × HasTaken extents results name old new
