-- What an append records, or why it is refused.
use Rattle.std.specs.Prelude.{◌≡◌, ℕ, ◌+◌, nat_le, nat_lt, if◌then◌else◌, List, [], length, slice_get, unwrap_or, Option, Some, None, Result, Ok, Err}
use Rattle.std.specs.Option.{option_map}
use Rattle.rows_core.specs.declared.schema.Column.{Column}
use Rattle.rows_core.specs.declared.value.Value.{Value}
use Rattle.rows_core.specs.declared.file_ref.FileRef.{FileRef}
use Rattle.rows_core.specs.Schema.{kinds_of}
use Rattle.row_blob.specs.declared.kept.Kept.TheVariants as kept
use Rattle.row_blob.specs.Spelling.{kept_spelling}
use Rattle.extent_files.specs.Files.{digest_of}
use Rattle.catalog_types.specs.declared.change.Change.{Change}
use Rattle.catalog_types.specs.declared.change.Change.TheVariants as change
use Rattle.catalog_types.specs.declared.extent.Extent.{Extent}
use Rattle.catalog_types.specs.declared.snapshot.StreamState.{StreamState}
use Rattle.catalog_core.specs.Programs.{extents_at}
use Rattle.catalog_core.specs.Table.{Table, place_of, extent_count, row_count}
use Rattle.rows_core.specs.Limits.{most_ticks, file_end, most_extents, most_extents_in_all, most_extent_bytes}
use Rattle.script_text.specs.declared.answer.LimitKind.TheVariants as limit
use Rattle.script_text.specs.declared.answer.Refusal.{Refusal}
use Rattle.script_text.specs.declared.answer.Refusal.TheVariants.{Limit, Unknown, Row}
use Rattle.planning.specs.Rows.{Reading, Reads, Rows, BadLine, have_long}

-- the columns of the stream at this place
abbrev pub columns_at : List StreamState → ℕ → List Column
columns_at streams place = unwrap_or (option_map (λ stream. stream.columns) (slice_get streams place)) []

-- the bytes of the file that keeps these rows
abbrev pub file_bytes : List (List Value) → List ℕ
file_bytes rows = kept_spelling (kept.Rows rows)

-- these bytes as the file of this number
abbrev pub file_of : ℕ → List ℕ → FileRef
file_of number bytes = record { file = number; len = length bytes; digest = digest_of bytes }

-- these rows as an extent in the next file
abbrev pub extent_of : Table → List (List Value) → Extent
extent_of t rows = record { file = file_of t.next_file (file_bytes rows); rows = length rows }

-- rows, and the place of the stream to which they are appended
pub record Append : Type 0 where
  pub place : ℕ
  pub rows : List (List Value)

abbrev pub append_to : ℕ → List (List Value) → Append
append_to place rows = record { place = place; rows = rows }

-- what an append records
abbrev pub append_change : Table → Append → Change
append_change t append = change.Append append.place (extent_of t append.rows)

-- the rows that the stream then holds
abbrev pub held : Table → Append → ℕ
held t append = unwrap_or (option_map row_count (slice_get t.streams append.place)) 0 + length append.rows

-- appending these rows to the stream at this place: the first case that holds
abbrev pub appending : Table → ℕ → List (List Value) → Result Append Refusal
appending t place rows =
    if have_long rows then Err (Limit limit.Text) else
    if nat_lt most_extent_bytes (length (file_bytes rows)) then Err (Limit limit.Extent) else
    if nat_le most_extents (length (extents_at t.streams place)) then Err (Limit limit.Extents) else
    if nat_le most_extents_in_all (extent_count t.streams) then Err (Limit limit.AllExtents) else
    if nat_le file_end t.next_file then Err (Limit limit.Files) else
    if nat_le most_ticks t.tick then Err (Limit limit.Commands) else
    Ok (append_to place rows)

-- appending what was read
abbrev pub appending_read : Table → ℕ → Reading → Result Append Refusal
appending_read t place (BadLine number) = Err (Row number)
appending_read t place (Rows rows) = appending t place rows

-- appending what the lines spell to the stream at this place, if there is one
abbrev pub IsAppendingAt : Table → Option ℕ → List ℕ → List (List ℕ) → Result Append Refusal → Type 0
IsAppendingAt t None name lines given = given ≡ Err (Unknown name)
IsAppendingAt t (Some place) name lines given =
    (reading : Reading) × Reads (kinds_of (columns_at t.streams place)) lines reading × (given ≡ appending_read t place reading)

-- appending what the lines spell to the stream of this name
abbrev pub IsAppending : Table → List ℕ → List (List ℕ) → Result Append Refusal → Type 0
IsAppending t name lines given = IsAppendingAt t (place_of t.streams name) name lines given
