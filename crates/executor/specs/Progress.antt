-- How far the pieces of a rewriting are read.
use Rattle.std.specs.Prelude.{◌≡◌, ◌≢◌, ◌⊎◌, ℕ, ◌+◌, ◌-◌, ◌≤◌, max, Bool, List, [], ◌∷◌, ◌++◌, length, Option, None, Some, Ok, Err, Result as Outcome}
use Rattle.std.specs.List.{flat_map}
use Rattle.std.specs.Option.{IfSome}
use Rattle.rows_core.specs.declared.cut.Cut.{Cut}
use Rattle.rows_core.specs.declared.file_ref.FileRef.{FileRef}
use Rattle.outside_traits.specs.View.{Counts}
use Rattle.outside_traits.specs.Calls.{CountsTaken}
use Rattle.row_blob.specs.Kept.{AreEach}
use Rattle.row_blob.specs.Spelling.{kept_spelling}
use Rattle.row_blob.specs.declared.kept.Kept.TheVariants as form
use Rattle.row_blob.specs.declared.shape.Shape.{Shape}
use Rattle.plan_core.specs.Columns.{Rows}
use Rattle.plan_core.specs.PlainPlan.{PlainPlan, Scan, leaves, plan_of}
use Rattle.plan_core.specs.PlanTyping.{Kinds}
use Rattle.plan_laws.specs.PlanShape.{plan_shape}
use Rattle.rewrite_core.specs.Files.{FileName, Extent, Result, extents_from}
use Rattle.growth_laws.specs.KeptResults.{KeptResult, KeptResults}
use Rattle.growth_laws.specs.Lists.{Extents, extents_of, interval_rows}
use Rattle.growth_laws.specs.Pieces.{Piece, Entry, Gathered}
use Rattle.gathering.specs.Gathered.{Gathers, kept_length, held_by}
use Rattle.gathering.specs.Gathered as so_far
use Rattle.result_ops.specs.declared.stop.Stop.{Stop}
use Rattle.result_ops.specs.declared.stop.Stop.TheVariants as stop
use Rattle.result_ops.specs.declared.made.Made.{Made}
use Rattle.executor.specs.Loading.{IsFitLoad}
use Rattle.growth_laws.specs.Chains.{IsOneStream}
use Rattle.executor.specs.Pieces.{HasTyping}
use Rattle.executor.specs.Reads.{IsOfForm, LoadsEntry, MayBeRead}
use Rattle.executor.specs.declared.part.Part.{Part}
use Rattle.executor.specs.declared.part.Part.TheVariants as part

-- what reading a kept result gave
abbrev pub Loaded : Type 0
Loaded = Outcome Made Stop

-- what lies outside of the bounds within which results are worked on isn't loaded
abbrev pub loaded_as : Option Made → Loaded
loaded_as None = Err stop.Machine
loaded_as (Some made) = Ok made

-- ---- what is left, and what is kept

-- the files that are still to be read of a part, in order
abbrev pub files_left : Part → List FileName
files_left (part.Entry plan id None) = Result id ∷ []
files_left (part.Entry plan id (Some loaded)) = []
files_left (part.Gathered gathering stream next end) = extents_from stream next (end - next)

abbrev pub left_in : List Part → List FileName
left_in = flat_map files_left

-- the id of the kept result whose file it is
abbrev pub result_of : FileName → Option ℕ
result_of (Extent stream number) = None
result_of (Result id) = Some id

-- the shape of what the next one holds
abbrev pub next_shape : List Kinds → Part → Shape
next_shape schemas (part.Entry plan id loaded) = plan_shape schemas (plan_of plan.value)
next_shape schemas (part.Gathered gathering stream next end) = plan_shape schemas (Scan stream)

-- it is the first part of which a file is left
abbrev pub IsNextPart : List Part → Part → Type 0
IsNextPart [] next = ⊥
IsNextPart (p ∷ parts) next = ((files_left p ≢ []) × (next ≡ p)) ⊎ ((files_left p ≡ []) × IsNextPart parts next)

-- how many rows or groups are kept
abbrev pub loaded_length : Option Loaded → ℕ
loaded_length None = 0
loaded_length (Some (Ok made)) = kept_length made.kept
loaded_length (Some (Err s)) = 0

abbrev pub held_in_part : Part → ℕ
held_in_part (part.Entry plan id loaded) = loaded_length loaded
held_in_part (part.Gathered gathering stream next end) = held_by gathering.came

abbrev pub held_in : List Part → ℕ
held_in [] = 0
held_in (p ∷ parts) = held_in_part p + held_in parts

-- ---- whatever the files hold

-- of this typed plan some result is loaded, or none yet
pub record IsEntryPart (schemas : List Kinds) (plan : PlainPlan) (loaded : Option Loaded) : Type 0 where
  pub typed : HasTyping schemas plan
  pub fit : IfSome loaded (IsFitLoad schemas plan)

-- of this typed plan over one stream some rows of the stream were fed
pub record IsStreamPart (schemas : List Kinds) (plan : PlainPlan) (gathering : so_far.Gathered) (stream : ℕ) : Type 0 where
  pub typed : HasTyping schemas plan
  pub one : IsOneStream plan
  pub of_plan : gathering.plan ≡ plan
  pub of_stream : leaves plan ≡ stream ∷ []
  pub fed : Rows
  pub gathers : Gathers schemas fed gathering

-- it is a part of the piece
abbrev pub IsPartOf : List Kinds → Piece → Part → Type 0
IsPartOf schemas (Entry plan id) (part.Entry boxed id' loaded) = (plan_of boxed.value ≡ plan) × (id' ≡ id) × IsEntryPart schemas plan loaded
IsPartOf schemas (Gathered plan cuts) (part.Gathered gathering stream next end) = IsStreamPart schemas plan gathering stream
IsPartOf schemas _ _ = ⊥

-- one part of each piece
abbrev pub ArePartsOf : List Kinds → List Piece → List Part → Type 0
ArePartsOf schemas = AreEach (IsPartOf schemas)

-- ---- where the files hold these extents and kept results

-- it is the kept result; or that lies outside of the bounds within which results are worked on
abbrev pub IsLoadOf : PlainPlan → KeptResult → Loaded → Type 0
IsLoadOf plan result (Ok made) = IsOfForm plan result.form result.machine (Some made)
IsLoadOf plan result (Err stop.Machine) = IsOfForm plan result.form result.machine None
IsLoadOf plan result (Err stop.Overflow) = ⊥

-- the extents of the interval before this one
abbrev pub up_to : Cut → ℕ → Cut
up_to cut next = record { from = cut.from; to = next }

-- the rows of those extents of the interval were fed, in order
pub record HasFedTo (schemas : List Kinds) (extents : Extents) (cut : Cut) (gathering : so_far.Gathered) (stream next end : ℕ) : Type 0 where
  pub ends : end ≡ cut.to
  pub begun : cut.from ≤ next
  pub within : next ≤ max cut.from cut.to
  pub gathers : Gathers schemas (interval_rows (extents_of extents stream) (up_to cut next)) gathering

-- what was read of the piece is what these extents and kept results are
abbrev pub HasRead : List Kinds → Extents → KeptResults → Piece → Part → Type 0
HasRead schemas extents results (Entry plan id) (part.Entry boxed id' loaded) = IfSome loaded (IsLoadOf plan (results id))
HasRead schemas extents results (Gathered plan cuts) (part.Gathered gathering stream next end) =
    (cut : Cut) → cuts ≡ cut ∷ [] → HasFedTo schemas extents cut gathering stream next end
HasRead schemas extents results _ _ = ⊥

abbrev pub HaveRead : List Kinds → Extents → KeptResults → List Piece → List Part → Type 0
HaveRead schemas extents results = AreEach (HasRead schemas extents results)

-- ---- one step

-- the kept form of a plan's result that is loaded from its file, whose bytes are taken once
pub record LoadsNow (tells : Bool) (plan : PlainPlan) (shape : Shape) (at : FileRef) (file : List ℕ) (machine : ℕ) (old new : Counts) (loaded : Option Loaded) : Type 0 where
  pub made : Option Made
  pub loaded_is : loaded ≡ Some (loaded_as made)
  pub loads : LoadsEntry tells plan shape at file machine old new made

-- the rows of an extent that are fed, of its file, whose bytes are taken once
pub record FeedsNow (tells : Bool) (schemas : List Kinds) (stream : ℕ) (at : FileRef) (file : List ℕ) (old new : Counts) (before after : so_far.Gathered) : Type 0 where
  pub rows : Rows
  pub read : MayBeRead tells (plan_shape schemas (Scan stream)) at file (form.Rows rows)
  pub taken : CountsTaken (length (kept_spelling (form.Rows rows))) old new
  pub gathers : (fed : Rows) → Gathers schemas fed before → Gathers schemas (fed ++ rows) after
