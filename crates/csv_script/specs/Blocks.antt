-- The script of rows: blocks of `append`.
use Rattle.std.specs.Prelude.{◌≡◌, ℕ, ◌<◌, ◌≤◌, Bool, if◌then◌else◌, List, [], ◌∷◌, ◌++◌, length, map, codes, Option}
use Rattle.std.specs.Io.KnownBytes.{Appends}
use Rattle.std.specs.List.{flat_map, AllByRecursion}
use Rattle.rows_core.specs.declared.kind.Kind.{Kind}
use Rattle.rows_core.specs.declared.value.Value.{Value}
use Rattle.rows_core.specs.declared.schema.Column.{Column}
use Rattle.rows_core.specs.Kind.{kind_word}
use Rattle.rows_core.specs.Value.{kind_of}
use Rattle.row_text.specs.RowSpelling.{row_spelling, IsLoose, IsShort}

-- a line with its LF
abbrev pub ended : List ℕ → List ℕ
ended line = line ++ 10 ∷ []

-- a row's line, with its LF
abbrev pub row_line : List Value → List ℕ
row_line row = ended (row_spelling row)

abbrev pub row_lines : List (List Value) → List ℕ
row_lines rows = flat_map row_line rows

-- `append NAME`, row lines, `end`
abbrev pub block_with : List ℕ → List ℕ → List ℕ
block_with name lines = ended (codes "append " ++ name) ++ (lines ++ ended (codes "end"))

abbrev pub block_text : List ℕ → List (List Value) → List ℕ
block_text name rows = block_with name (row_lines rows)

abbrev pub blocks_text : List ℕ → List (List (List Value)) → List ℕ
blocks_text name blocks = flat_map (block_text name) blocks

-- the most bytes of a block's row lines, with their LFs: the file of its rows has four times as many at most, and 16
abbrev pub most_block_bytes : ℕ
most_block_bytes = 4194300

-- a row of these kinds whose texts have 1,000 bytes at most
pub record IsStreamRow (kinds : List Kind) (row : List Value) : Type 0 where
  pub kinds_are : map kind_of row ≡ kinds
  pub loose : AllByRecursion IsLoose row
  pub short : AllByRecursion IsShort row

-- rows of a block, one or more
pub record IsBlock (kinds : List Kind) (rows : List (List Value)) : Type 0 where
  pub some : 0 < length rows
  pub all : AllByRecursion (IsStreamRow kinds) rows
  pub small : length (row_lines rows) ≤ most_block_bytes

-- `COL:KIND`
abbrev pub column_text : Column → List ℕ
column_text column = column.name ++ 58 ∷ kind_word column.kind

-- each column behind a comma
abbrev pub more_text : List Column → List ℕ
more_text columns = flat_map (λ column. 44 ∷ column_text column) columns

-- columns with commas between them
abbrev pub columns_text : List Column → List ℕ
columns_text [] = []
columns_text (column ∷ columns) = column_text column ++ more_text columns

-- `stream NAME(COL:KIND,COL:KIND)`
abbrev pub stream_text : List ℕ → List Column → List ℕ
stream_text name columns = codes "stream " ++ (name ++ 40 ∷ (columns_text columns ++ 41 ∷ []))

-- the line that makes the stream, where that is asked for
abbrev pub beginning : Bool → List ℕ → List Column → List ℕ
beginning declares name columns = if declares then ended (stream_text name columns) else []

-- that line and the blocks
abbrev pub script_text : Bool → List ℕ → List Column → List (List (List Value)) → List ℕ
script_text declares name columns blocks = beginning declares name columns ++ blocks_text name blocks

-- the rows of blocks, in order
abbrev pub joined : List (List (List Value)) → List (List Value)
joined blocks = flat_map (λ rows. rows) blocks

-- the rows were written in blocks of one row or more
pub record IsWritten (kinds : List Kind) (name : List ℕ) (before now : Option (List ℕ)) (rows : List (List Value)) : Type 0 where
  pub blocks : List (List (List Value))
  pub rows_are : rows ≡ joined blocks
  pub all : AllByRecursion (IsBlock kinds) blocks
  pub wrote : Appends before now (blocks_text name blocks)

-- the rows were written in blocks, but for those of the open block, whose lines these are
pub record IsBlocked (kinds : List Kind) (name : List ℕ) (before now : Option (List ℕ)) (lines : List ℕ) (rows : List (List Value)) : Type 0 where
  pub blocks : List (List (List Value))
  pub open_rows : List (List Value)
  pub rows_are : rows ≡ joined blocks ++ open_rows
  pub all : AllByRecursion (IsBlock kinds) blocks
  pub all_open : AllByRecursion (IsStreamRow kinds) open_rows
  pub small : length lines ≤ most_block_bytes
  pub lines_are : lines ≡ row_lines open_rows
  pub wrote : Appends before now (blocks_text name blocks)
