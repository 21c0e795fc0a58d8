-- The states that follow from one.
use Rattle.std.specs.Prelude.{◌≡◌, ℕ, ◌+◌, List, [], ◌∷◌, ◌++◌, length, Option, IfSome, slice_get}
use Rattle.rows_core.specs.declared.schema.Column.{Column}
use Rattle.rows_core.specs.declared.value.Value.{Value}
use Rattle.catalog_types.specs.PlainEntry.{PlainNewEntry}
use Rattle.catalog_types.specs.declared.program.Program.{Program}
use Rattle.entry_table.specs.Ids.{without}
use Rattle.entry_table.specs.Work.{Kept as Results, after_work, kept_with}
use Rattle.outside_traits.specs.View.{View, Now, Only}
use Rattle.rows_core.specs.Schema.{kinds_of}
use Rattle.row_blob.specs.Kept.{IsKept}
use Rattle.row_blob.specs.Spelling.{kept_spelling}
use Rattle.row_blob.specs.declared.kept.Kept.{Kept}
use Rattle.row_blob.specs.declared.kept.Kept.TheVariants as kept
use Rattle.row_blob.specs.declared.shape.Shape.TheVariants as shape
use Rattle.catalog_core.specs.Results.{digests_of}
use Rattle.catalog_core.specs.Table.{updated, with_stored}
use Rattle.folder.specs.State.{Extent, Stream, State, IsResultIn, ref_of, states_of, file_bytes}

-- one more stream
abbrev pub with_stream : State → List ℕ → List Column → State
with_stream s name columns = record {
  tick = s.tick + 1;
  next_file = s.next_file;
  next_id = s.next_id;
  streams = s.streams ++ record { name = name; columns = columns; extents = [] } ∷ [];
  programs = s.programs;
  entries = s.entries;
}

-- these rows, and the file of this number that they stand in
abbrev pub new_extent : ℕ → List (List Value) → Extent
new_extent file rows = record { rows = rows; file = ref_of file (file_bytes rows) }

abbrev pub grown : Extent → Stream → Stream
grown e stream = record { name = stream.name; columns = stream.columns; extents = stream.extents ++ e ∷ [] }

-- one more extent of the stream of this number, in the next file
abbrev pub with_rows : State → ℕ → List (List Value) → State
with_rows s place rows = record {
  tick = s.tick + 1;
  next_file = s.next_file + 1;
  next_id = s.next_id;
  streams = updated (grown (new_extent s.next_file rows)) s.streams place;
  programs = s.programs;
  entries = s.entries;
}

-- the rows have values of the kinds of that stream's columns
abbrev pub AreRowsOf : State → ℕ → List (List Value) → Type 0
AreRowsOf s place rows = IfSome (slice_get s.streams place) (λ stream. IsKept (shape.Rows (kinds_of stream.columns)) (kept.Rows rows))

-- the programs after a plan was run under a name, or without one
abbrev pub with_run : State → Option Program → State
with_run s program = record {
  tick = s.tick + 1;
  next_file = s.next_file;
  next_id = s.next_id;
  streams = s.streams;
  programs = with_stored program s.programs;
  entries = s.entries;
}

-- ---- kept results

-- those of the state after a piece of work, and the id of the next one
abbrev pub worked : State → List ℕ → List ℕ → List PlainNewEntry → Results
worked s reads dropped kept =
    after_work (digests_of (states_of s.streams)) (s.tick + 1) reads dropped kept (kept_with s.next_id s.entries)

-- The programs and the kept results after a piece of work: those that were read have a use more, those that are dropped are
-- gone, and the new ones, in the next files, have the next ids.
abbrev pub with_work : State → Option Program → List ℕ → List ℕ → List PlainNewEntry → State
with_work s program reads dropped kept = record {
  tick = s.tick + 1;
  next_file = s.next_file + length kept;
  next_id = (worked s reads dropped kept).next_id;
  streams = s.streams;
  programs = with_stored program s.programs;
  entries = (worked s reads dropped kept).entries;
}

-- without the kept results that have these ids
abbrev pub with_collection : State → List ℕ → State
with_collection s ids = record {
  tick = s.tick + 1;
  next_file = s.next_file;
  next_id = s.next_id;
  streams = s.streams;
  programs = s.programs;
  entries = without ids s.entries;
}

-- the new result is that of its plan at its cut of the streams, and its reference that of a file of its form
pub record IsNewResultOf (streams : List Stream) (new : PlainNewEntry) (form : Kept) : Type 0 where
  pub result : IsResultIn streams new.plan new.cuts form new.machine
  pub file_is : new.file ≡ ref_of new.file.file (kept_spelling form)

-- and its file holds that form after each crash now
abbrev pub IsReadyResult : View → List Stream → PlainNewEntry → Type 0
IsReadyResult v streams new = (form : Kept) × IsNewResultOf streams new form × Only (kept_spelling form) (Now v new.file.file)
