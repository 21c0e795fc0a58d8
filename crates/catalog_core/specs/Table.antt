-- The table: all that the catalogue holds. What a change makes of it, and which changes fit.
use Rattle.std.specs.Prelude.{◌≡◌, ℕ, zero, suc, ◌+◌, ◌<◌, ◌≤◌, Bool, true, false, List, [], ◌∷◌, ◌++◌, length, map, position, bytes_eq, Option, Some, None}
use Rattle.std.specs.List.{AllByRecursion}
use Rattle.rows_core.specs.declared.file_ref.Digest.{Digest}
use Rattle.rows_core.specs.declared.schema.Column.{Column}
use Rattle.rows_core.specs.Schema.{IsSchema}
use Rattle.catalog_types.specs.PlainEntry.{PlainEntry, PlainNewEntry}
use Rattle.catalog_types.specs.declared.change.Change.{Change}
use Rattle.catalog_types.specs.declared.change.Change.TheVariants.{Stream, Append, Work, Collect, Checkpoint}
use Rattle.catalog_types.specs.declared.extent.Extent.{Extent}
use Rattle.catalog_types.specs.declared.program.Program.{Program}
use Rattle.catalog_types.specs.declared.snapshot.Snapshot.{Snapshot}
use Rattle.catalog_types.specs.declared.snapshot.StreamState.{StreamState}
use Rattle.entry_table.specs.Keyed.{with_keys}
use Rattle.entry_table.specs.Work as work
use Rattle.entry_table.specs.Work.{Kept}
use Rattle.catalog_core.specs.IsTable.{IsTable}
pub use Rattle.catalog_core.specs.Parts.{Table, table_with, empty_table, kept_of_table, extent_count, row_count}
use Rattle.rows_core.specs.Limits.{file_end, most_ticks, most_streams, most_extents, most_extents_in_all, most_extent_bytes, most_rows, most_programs}
use Rattle.catalog_core.specs.Programs.{extents_at, IsProgram, with_program}
use Rattle.catalog_core.specs.Results.{IsResultOver, digests_of}

-- ---- streams

-- the place of the first stream with this name
abbrev pub place_of : List StreamState → List ℕ → Option ℕ
place_of streams name = position (λ stream. bytes_eq stream.name name) streams

abbrev pub new_stream : List ℕ → List Column → StreamState
new_stream name columns = record { name = name; columns = columns; extents = [] }

abbrev pub with_extent : Extent → StreamState → StreamState
with_extent extent stream = record { name = stream.name; columns = stream.columns; extents = stream.extents ++ extent ∷ [] }

-- the list with the item at this place changed
abbrev pub updated : {A : Type 0} → (A → A) → List A → ℕ → List A
updated f [] n = []
updated f (x ∷ xs) zero = f x ∷ xs
updated f (x ∷ xs) (suc n) = x ∷ updated f xs n

-- ---- which changes fit

-- no stream has the name, it has columns whose names differ, and the counts stay within their limits
pub record FitsStream (name : List ℕ) (columns : List Column) (t : Table) : Type 0 where
  pub counted : t.tick < most_ticks
  pub schema : IsSchema columns
  pub absent : place_of t.streams name ≡ None
  pub room : length t.streams < most_streams

-- the next file, with a row, and short enough
pub record IsNextExtent (extent : Extent) (t : Table) : Type 0 where
  pub next : extent.file.file ≡ t.next_file
  pub numbered : t.next_file < file_end
  pub has_row : 0 < extent.rows
  pub rows : extent.rows ≤ most_rows
  pub short : extent.file.len ≤ most_extent_bytes

-- the stream is there, and has fewer extents than it may have
abbrev pub HasPlaceForExtent : ℕ → List StreamState → Type 0
HasPlaceForExtent place streams = (place < length streams) × (length (extents_at streams place) < most_extents)

-- the stream is there, the extent is the next file and has a row, and the counts stay within their limits
pub record FitsAppend (place : ℕ) (extent : Extent) (t : Table) : Type 0 where
  pub counted : t.tick < most_ticks
  pub is_next : IsNextExtent extent t
  pub has_place : HasPlaceForExtent place t.streams
  pub room_in_all : extent_count t.streams < most_extents_in_all

-- a program, if there is one, is of the table's streams, and the programs stay within their limit
abbrev pub FitsProgram : Option Program → Table → Type 0
FitsProgram None t = Unit {0}
FitsProgram (Some program) t = IsProgram t.streams program × (length (with_program program t.programs) ≤ most_programs)

-- The work fits the kept results, and each new one is of a plan and a cut over the table's streams.
pub record FitsResults (reads dropped : List ℕ) (kept : List PlainNewEntry) (t : Table) : Type 0 where
  pub over : AllByRecursion (IsResultOver t.streams) kept
  pub results : work.FitsWork t.next_file reads dropped kept (kept_of_table t)

pub record FitsWork (program : Option Program) (reads dropped : List ℕ) (kept : List PlainNewEntry) (t : Table) : Type 0 where
  pub counted : t.tick < most_ticks
  pub results : FitsResults reads dropped kept t
  pub stored : FitsProgram program t

-- the ids are of kept results
pub record FitsCollection (ids : List ℕ) (t : Table) : Type 0 where
  pub counted : t.tick < most_ticks
  pub there : work.FitsCollection ids (kept_of_table t)

-- the table that a checkpoint tells: the keys of its kept results are those of their plans and cuts
abbrev pub keyed : Snapshot → Table
keyed whole = record whole { entries = map (with_keys (digests_of whole.streams)) whole.entries }

-- the table, told with this program key and this key for each of its kept results
abbrev pub told_with : Digest → Digest → Table → Snapshot
told_with program key t = record t { entries = map (λ (e : PlainEntry). record e { program = program; key = key }) t.entries }

-- a checkpoint fits the empty table alone, and tells a table
pub record FitsCheckpoint (whole : Snapshot) (t : Table) : Type 0 where
  pub first : t ≡ empty_table
  pub table : IsTable (keyed whole)

-- the change may be made of this table
abbrev pub Fits : Change → Table → Type 0
Fits (Stream name columns) t = FitsStream name columns t
Fits (Append place extent) t = FitsAppend place extent t
Fits (Work program reads dropped kept) t = FitsWork program reads dropped kept t
Fits (Collect ids) t = FitsCollection ids t
Fits (Checkpoint whole) t = FitsCheckpoint whole t

-- ---- the table after a change

abbrev pub with_stored : Option Program → List Program → List Program
with_stored None programs = programs
with_stored (Some program) programs = with_program program programs

abbrev pub with_programs : List Program → Table → Table
with_programs programs t = record t { programs = programs }

abbrev pub with_tick : Table → Table
with_tick t = record t { tick = t.tick + 1 }

-- the table with these kept results
abbrev pub with_kept : Kept → Table → Table
with_kept k t = record t { next_id = k.next_id; entries = k.entries }

-- the table after a piece of work at this tick, whose new results take the next files
abbrev pub with_work : List ℕ → List ℕ → List PlainNewEntry → Table → Table
with_work reads dropped kept t =
    with_kept (work.after_work (digests_of t.streams) t.tick reads dropped kept (kept_of_table t))
    (record t { next_file = t.next_file + length kept })

-- each change but the checkpoint is a tick
abbrev pub after : Change → Table → Table
after (Stream name columns) t = with_tick (record t { streams = t.streams ++ new_stream name columns ∷ [] })
after (Append place extent) t =
    with_tick (record t { next_file = t.next_file + 1; streams = updated (with_extent extent) t.streams place })
after (Work program reads dropped kept) t =
    with_work reads dropped kept (with_programs (with_stored program t.programs) (with_tick t))
after (Collect ids) t = with_kept (work.after_collection ids (kept_of_table t)) (with_tick t)
after (Checkpoint whole) t = keyed whole

abbrev pub is_checkpoint : Change → Bool
is_checkpoint (Stream name columns) = false
is_checkpoint (Append place extent) = false
is_checkpoint (Work program reads dropped kept) = false
is_checkpoint (Collect ids) = false
is_checkpoint (Checkpoint whole) = true
