-- The line `stream NAME (COL:KIND, COL:KIND)`. Any number of spaces stands before, between and behind its parts.
use Rattle.std.specs.Prelude.{ℕ, ◌+◌, Bool, ◌==◌, if◌then◌else◌, List, [], ◌∷◌, take, drop, position, Option, Some, None, option_and_then}
use Rattle.std.specs.List.{slice_split}
use Rattle.std.specs.Option.{option_map}
use Rattle.rows_core.specs.Kind.{kind_with_word}
use Rattle.rows_core.specs.declared.kind.Kind.{Kind}
use Rattle.rows_core.specs.declared.schema.Column.{Column}
use Rattle.script_text.specs.Words.{is_blank, only_word, only_name}
use Rattle.script_text.specs.declared.item.Command.{Command}
use Rattle.script_text.specs.declared.item.Command.TheVariants.{Stream}

-- the byte is this mark
abbrev pub is_mark : ℕ → ℕ → Bool
is_mark mark c = c == mark

-- what stands before a mark, and behind it
pub record Parts : Type 0 where
  pub before : List ℕ
  pub behind : List ℕ

abbrev pub parts_round : List ℕ → ℕ → Parts
parts_round text place = record { before = take place text; behind = drop (place + 1) text }

-- the parts of a text before and behind the first such mark, where it has one
unfoldable pub parts_at : ℕ → List ℕ → Option Parts
parts_at mark text = option_map (parts_round text) (position (is_mark mark) text)

-- the kind of which the one word of a text is the word
abbrev pub only_kind : List ℕ → Option Kind
only_kind text = option_and_then kind_with_word (only_word text)

-- a column, where there are a name and a kind
abbrev pub column_with : Option (List ℕ) → Option Kind → Option Column
column_with (Some name) (Some kind) = Some (record { name = name; kind = kind })
column_with (Some name) None = None
column_with None kind = None

abbrev pub column_of_parts : Parts → Option Column
column_of_parts parts = column_with (only_name parts.before) (only_kind parts.behind)

-- the column that `COL:KIND` spells
abbrev pub column_of : List ℕ → Option Column
column_of text = option_and_then column_of_parts (parts_at 58 text)

-- a list of columns, where each is one
abbrev pub columns_with : Option Column → Option (List Column) → Option (List Column)
columns_with (Some column) (Some columns) = Some (column ∷ columns)
columns_with (Some column) None = None
columns_with None columns = None

abbrev pub columns_of_parts : List (List ℕ) → Option (List Column)
columns_of_parts [] = Some []
columns_of_parts (part ∷ parts) = columns_with (column_of part) (columns_of_parts parts)

-- the columns that `COL:KIND, COL:KIND` spells, which commas part
unfoldable pub columns_of : List ℕ → Option (List Column)
columns_of text = columns_of_parts (slice_split (is_mark 44) text)

abbrev pub columns_before : Parts → Option (List Column)
columns_before parts = if is_blank parts.behind then columns_of parts.before else None

-- the columns that `COL:KIND, COL:KIND)` spells
abbrev pub closed_columns : List ℕ → Option (List Column)
closed_columns text = option_and_then columns_before (parts_at 41 text)

-- the making of a stream, where there are a name and columns
abbrev pub stream_with : Option (List ℕ) → Option (List Column) → Option Command
stream_with (Some name) (Some columns) = Some (Stream name columns)
stream_with (Some name) None = None
stream_with None columns = None

abbrev pub stream_of_parts : Parts → Option Command
stream_of_parts parts = stream_with (only_name parts.before) (closed_columns parts.behind)

-- the command of which `NAME (COL:KIND, COL:KIND)` stands behind its first word
abbrev pub stream_of : List ℕ → Option Command
stream_of text = option_and_then stream_of_parts (parts_at 40 text)
