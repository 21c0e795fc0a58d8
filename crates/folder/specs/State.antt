-- What a folder holds: the table of the catalogue, with the rows of each extent in it.
use Rattle.std.specs.Prelude.{◌≡◌, ◌⊎◌, ℕ, ◌<◌, ◌≤◌, List, [], length, map, Ok}
use Rattle.std.specs.List.{Contains, AllByRecursion}
use Rattle.rows_core.specs.declared.file_ref.FileRef.{FileRef}
use Rattle.rows_core.specs.declared.schema.Column.{Column}
use Rattle.rows_core.specs.declared.value.Value.{Value}
use Rattle.rows_core.specs.Schema.{kinds_of}
use Rattle.row_blob.specs.Kept.{IsKept}
use Rattle.row_blob.specs.Spelling.{kept_spelling}
use Rattle.row_blob.specs.declared.kept.Kept.{Kept}
use Rattle.row_blob.specs.declared.kept.Kept.TheVariants as kept
use Rattle.row_blob.specs.declared.shape.Shape.TheVariants as shape
use Rattle.extent_files.specs.Files.{digest_of}
use Rattle.plan_core.specs.PlainPlan.{PlainPlan}
use Rattle.plan_core.specs.PlanTyping.{Kinds}
use Rattle.plan_canon.specs.Normal.{IsNormal}
use Rattle.plan_laws.specs.KeptForm.{kept_form}
use Rattle.plan_laws.specs.PlanShape.{plan_shape}
use Rattle.estimator.specs.Cuts.{Cuts}
use Rattle.growth_laws.specs.KeptResults.{IsResultOf}
use Rattle.growth_laws.specs.Lists.{Extents, plan_lists}
use Rattle.catalog_types.specs.PlainEntry.{PlainEntry}
use Rattle.catalog_types.specs.declared.extent.Extent as of_table
use Rattle.catalog_types.specs.declared.program.Program.{Program}
use Rattle.catalog_types.specs.declared.snapshot.StreamState.{StreamState}
use Rattle.catalog_core.specs.Programs.{kinds_of_streams}
use Rattle.catalog_core.specs.Results.{IsOver}
use Rattle.catalog_core.specs.Table.{Table}

-- rows that were appended together, and the file that they stand in
pub record Extent : Type 0 where
  pub rows : List (List Value)
  pub file : FileRef

pub record Stream : Type 0 where
  pub name : List ℕ
  pub columns : List Column
  pub extents : List Extent

pub record State : Type 0 where
  -- how many commands were recorded
  pub tick : ℕ
  -- the number of the next file, and the id of the next kept result
  pub next_file : ℕ
  pub next_id : ℕ
  -- in the order of their making
  pub streams : List Stream
  -- in the byte order of their names
  pub programs : List Program
  -- kept results, by their ids
  pub entries : List PlainEntry

-- the state of a new folder
abbrev pub empty_state : State
empty_state = record { tick = 0; next_file = 1; next_id = 1; streams = []; programs = []; entries = [] }

-- ---- the table of a state: each extent's rows are replaced by their number

abbrev pub extent_of : Extent → of_table.Extent
extent_of e = record { file = e.file; rows = length e.rows }

abbrev pub stream_of : Stream → StreamState
stream_of stream = record { name = stream.name; columns = stream.columns; extents = map extent_of stream.extents }

abbrev pub states_of : List Stream → List StreamState
states_of streams = map stream_of streams

abbrev pub table : State → Table
table s = record {
  tick = s.tick;
  next_file = s.next_file;
  next_id = s.next_id;
  streams = states_of s.streams;
  programs = s.programs;
  entries = s.entries;
}

-- ---- what plans see of the streams

-- the kinds of each stream's columns
abbrev pub kinds_in : List Stream → List Kinds
kinds_in streams = kinds_of_streams (states_of streams)

-- the rows of each extent
abbrev pub rows_in : Stream → List (List (List Value))
rows_in stream = map (λ extent. extent.rows) stream.extents

-- of each stream the rows of each of its extents
abbrev pub extents_in : List Stream → Extents
extents_in streams = map rows_in streams

-- the rows that a plan's leaves have at a cut
abbrev pub lists_in : List Stream → PlainPlan → Cuts → List (List (List Value))
lists_in streams plan cuts = plan_lists (extents_in streams) plan cuts

-- The form and the machine time are those of this plan's result at this cut of the streams: the plan is normal and has a
-- typing, the cut ends within the extents, and the form is one that its file is read back as; the machine time is kept in
-- 32 bits.
pub record IsResultIn (streams : List Stream) (plan : PlainPlan) (cuts : Cuts) (form : Kept) (machine : ℕ) : Type 0 where
  pub normal : IsNormal (kinds_in streams) plan
  pub over : IsOver (states_of streams) plan cuts
  pub of_shape : IsKept (plan_shape (kinds_in streams) plan) form
  pub result : IsResultOf (extents_in streams) plan cuts (record { form = form; machine = machine })
  pub within : machine ≤ 4294967295

-- so it is with a kept result
abbrev pub IsEntryOf : List Stream → PlainEntry → Type 0
IsEntryOf streams e = (form : Kept) × IsResultIn streams e.plan e.cuts form e.machine

-- ---- the files that a state names

-- the bytes of a file of these rows
unfoldable pub file_bytes : List (List Value) → List ℕ
file_bytes rows = kept_spelling (kept.Rows rows)

-- what a file of these bytes is known by
abbrev pub ref_of : ℕ → List ℕ → FileRef
ref_of file bytes = record { file = file; len = length bytes; digest = digest_of bytes }

-- the extent is one of this stream, which is one of the state
abbrev pub HasExtent : State → Stream → Extent → Type 0
HasExtent s stream e = Contains s.streams stream × Contains stream.extents e

-- the file of an extent, which has its rows
pub record NamesExtent (s : State) (at : FileRef) (bytes : List ℕ) : Type 0 where
  pub stream : Stream
  pub extent : Extent
  pub has : HasExtent s stream extent
  pub at_is : at ≡ extent.file
  pub bytes_are : bytes ≡ file_bytes extent.rows

-- the file of a kept result, which has what is kept of its plan's result at its cut
pub record NamesResult (s : State) (at : FileRef) (bytes : List ℕ) : Type 0 where
  pub entry : PlainEntry
  pub has : Contains s.entries entry
  pub form : Kept
  pub form_is : kept_form entry.plan (lists_in s.streams entry.plan entry.cuts) ≡ Ok form
  pub at_is : at ≡ entry.file
  pub bytes_are : bytes ≡ kept_spelling form

-- The state names this file, and its first bytes are to be these, which are a function of the state.
abbrev pub Names : State → FileRef → List ℕ → Type 0
Names s at bytes = NamesExtent s at bytes ⊎ NamesResult s at bytes

-- What holds of each state that can be reached, whatever the files are.
pub record IsValid (s : State) : Type 0 where
  -- a reference is that of its file's bytes
  pub refs : (at : FileRef) (bytes : List ℕ) → Names s at bytes → at ≡ ref_of at.file bytes
  -- its number was given
  pub given : (at : FileRef) (bytes : List ℕ) → Names s at bytes → (0 < at.file) × (at.file < s.next_file)
  -- rows have values of their stream's kinds
  pub rows : (stream : Stream) (e : Extent) → HasExtent s stream e → IsKept (shape.Rows (kinds_of stream.columns)) (kept.Rows e.rows)
  -- kept results are those of their plans
  pub results : AllByRecursion (IsEntryOf s.streams) s.entries
  pub first : 0 < s.next_file
  pub last : s.next_file ≤ 4294967296
