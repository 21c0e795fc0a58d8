-- The catalogue as JSON: an object of its entries, programs, streams and tick. The members of each object are in the byte order of
-- their keys.
use Rattle.std.specs.Prelude.{ℕ, List, [], length, map, slice_get, unwrap_or, codes}
use Rattle.std.specs.List.{zip}
use Rattle.std.specs.Option.{option_map}
use Rattle.hex.specs.Hex.{encode_lower}
use Rattle.serde_json.specs.Data.{Data, number, unsigned, string, array, object, no_items, item, no_members, member}
use Rattle.serde_json.specs.View.{items_of}
use Rattle.rows_core.specs.Kind.{kind_word}
use Rattle.rows_core.specs.declared.cut.Cut.{Cut}
use Rattle.rows_core.specs.declared.file_ref.Digest.{Digest}
use Rattle.rows_core.specs.declared.schema.Column.{Column}
use Rattle.plan_core.specs.PlainPlan.{leaves}
use Rattle.plan_text.specs.PlainNamed.{streams_of}
use Rattle.plan_text.specs.Answer.{TextReading, AsPlan, text_reading}
use Rattle.catalog_types.specs.PlainEntry.{PlainEntry}
use Rattle.catalog_types.specs.declared.program.Program.{Program}
use Rattle.catalog_types.specs.declared.snapshot.StreamState.{StreamState}
use Rattle.catalog_core.specs.Table.{Table, row_count}

-- ---- numbers, digests and lists

abbrev pub count : ℕ → Data
count n = number (unsigned n)

-- 64 hexadecimal digits in lower case
abbrev pub digest_data : Digest → Data
digest_data digest = string (encode_lower digest.bytes)

-- a list of what each item is
abbrev pub list_of : {A : Type 0} → (A → Data) → List A → Data
list_of told items = array (items_of (map told items))

-- ---- cuts: of each leaf of a plan, from the left, the extents that were read

-- [the name of the leaf's stream, from, to]
abbrev pub cut_data : List ℕ × Cut → Data
cut_data leaf = array (item (string leaf.0) (item (count leaf.1.from) (item (count leaf.1.to) no_items)))

abbrev pub cuts_data : List (List ℕ) → List Cut → Data
cuts_data names cuts = list_of cut_data (zip names cuts)

-- ---- streams

-- [name, kind]
abbrev pub column_data : Column → Data
column_data column = array (item (string column.name) (item (string (kind_word column.kind)) no_items))

-- the columns, how many extents there are, the name and the rows of all extents
unfoldable pub stream_data : StreamState → Data
stream_data stream =
    object (member (codes "columns") (list_of column_data stream.columns)
    (member (codes "extents") (count (length stream.extents))
    (member (codes "name") (string stream.name)
    (member (codes "rows") (count (row_count stream)) no_members))))

-- ---- programs

-- the names of the streams of the leaves, where the text is read as a plan
abbrev pub leaf_names : TextReading → List (List ℕ)
leaf_names (AsPlan plan) = streams_of plan
leaf_names _ = []

-- the extents of the last run, the name and the text of the plan
unfoldable pub program_data : Program → Data
program_data program =
    object (member (codes "cuts") (cuts_data (leaf_names (text_reading program.text)) program.cuts)
    (member (codes "name") (string program.name)
    (member (codes "plan") (string program.text) no_members)))

-- ---- entries

-- the name of the stream at this place
abbrev pub name_at : List StreamState → ℕ → List ℕ
name_at streams place = unwrap_or (option_map (λ stream. stream.name) (slice_get streams place)) []

-- the length of the file, the extents that the result is of, the number of the file, the id, the key of the program, the tick of the
-- last use, the machine time, the tick of the making and the count of uses
unfoldable pub entry_data : List StreamState → PlainEntry → Data
entry_data streams e =
    object (member (codes "bytes") (count e.file.len)
    (member (codes "cuts") (cuts_data (map (name_at streams) (leaves e.plan)) e.cuts)
    (member (codes "file") (count e.file.file)
    (member (codes "id") (count e.id)
    (member (codes "key") (digest_data e.program)
    (member (codes "last") (count e.last)
    (member (codes "machine") (count e.machine)
    (member (codes "made") (count e.made)
    (member (codes "uses") (count e.uses) no_members)))))))))

-- ---- the whole

-- entries by their ids, programs in the byte order of their names, and streams in the order of making: so the table has them
unfoldable pub catalog_data : Table → Data
catalog_data t =
    object (member (codes "entries") (list_of (entry_data t.streams) t.entries)
    (member (codes "programs") (list_of program_data t.programs)
    (member (codes "streams") (list_of stream_data t.streams)
    (member (codes "tick") (count t.tick) no_members))))
