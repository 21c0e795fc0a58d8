-- The parts of a table.
use Rattle.std.specs.Prelude.{ℕ, List, [], length, sum_by}
use Rattle.catalog_types.specs.PlainEntry.{PlainEntry}
use Rattle.catalog_types.specs.declared.program.Program.{Program}
use Rattle.catalog_types.specs.declared.snapshot.Snapshot.{Snapshot}
use Rattle.catalog_types.specs.declared.snapshot.StreamState.{StreamState}
use Rattle.entry_table.specs.Work.{Kept, kept_with}

-- how many commands were recorded, the next numbers of files and of kept results, and what these are called by
abbrev pub Table : Type 0
Table = Snapshot

-- the table of these parts
abbrev pub table_with : ℕ → ℕ → ℕ → List StreamState → List Program → List PlainEntry → Table
table_with tick next_file next_id streams programs entries =
    record { tick = tick; next_file = next_file; next_id = next_id; streams = streams; programs = programs; entries = entries }

abbrev pub empty_table : Table
empty_table = table_with 0 1 1 [] [] []

-- the kept results of a table, and the id of the next one
abbrev pub kept_of_table : Table → Kept
kept_of_table t = kept_with t.next_id t.entries

-- ---- counts

-- the extents of all streams
abbrev pub extent_count : List StreamState → ℕ
extent_count streams = sum_by (λ stream. length stream.extents) streams

-- the rows of a stream
abbrev pub row_count : StreamState → ℕ
row_count stream = sum_by (λ extent. extent.rows) stream.extents
