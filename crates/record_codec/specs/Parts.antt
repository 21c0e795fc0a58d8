-- How much a change holds: its items, the bytes of its names and texts, and what its plans hold.
use Rattle.std.specs.Prelude.{ℕ, ◌+◌, length, Option, Some, None}
use Rattle.std.specs.List.{sum_by}
use Rattle.rows_core.specs.declared.schema.Column.{Column}
use Rattle.plan_spelling.specs.Parts.{plan_parts}
use Rattle.catalog_types.specs.PlainEntry.{PlainEntry, PlainNewEntry}
use Rattle.catalog_types.specs.declared.change.Change.{Change}
use Rattle.catalog_types.specs.declared.change.Change.TheVariants.{Stream, Append, Work, Collect, Checkpoint}
use Rattle.catalog_types.specs.declared.program.Program.{Program}
use Rattle.catalog_types.specs.declared.snapshot.Snapshot.{Snapshot}
use Rattle.catalog_types.specs.declared.snapshot.StreamState.{StreamState}
use Rattle.record_codec.specs.Spelling.{kept_of}

abbrev pub column_parts : Column → ℕ
column_parts column = 1 + length column.name

abbrev pub program_parts : Program → ℕ
program_parts p = 1 + length p.name + length p.text + length p.cuts

abbrev pub program_if_parts : Option Program → ℕ
program_if_parts None = 0
program_if_parts (Some program) = program_parts program

abbrev pub new_entry_parts : PlainNewEntry → ℕ
new_entry_parts e = 1 + plan_parts e.plan + length e.cuts

abbrev pub entry_parts : PlainEntry → ℕ
entry_parts e = new_entry_parts (kept_of e)

abbrev pub stream_parts : StreamState → ℕ
stream_parts s = 1 + length s.name + sum_by column_parts s.columns + length s.extents

abbrev pub snapshot_parts : Snapshot → ℕ
snapshot_parts s = sum_by stream_parts s.streams + sum_by program_parts s.programs + sum_by entry_parts s.entries

abbrev pub change_parts : Change → ℕ
change_parts (Stream name columns) = 1 + length name + sum_by column_parts columns
change_parts (Append stream extent) = 1
change_parts (Work program reads dropped kept) = program_if_parts program + length reads + length dropped + sum_by new_entry_parts kept
change_parts (Collect ids) = length ids
change_parts (Checkpoint whole) = snapshot_parts whole
