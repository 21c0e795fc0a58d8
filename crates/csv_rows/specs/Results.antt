-- The CSV of a result's rows.
use Rattle.std.specs.Prelude.{◌≡◌, ◌==◌, ℕ, ◌+◌, if◌then◌else◌, false, List, [], ◌++◌, length, map, Option, Some}
use Rattle.std.specs.Io.KnownBytes.{Appends}
use Rattle.std.specs.List.{flat_map, AllByRecursion}
use Rattle.csv.specs.Writing.{default_writer, fields_written, has_written, row_text, writer_setup}
use Rattle.csv.specs.declared.writer.Writer.{Writer}
use Rattle.rows_core.specs.declared.value.Value.{Value}
use Rattle.row_text.specs.RowSpelling.{row_spelling, value_spelling, IsLoose}
use Rattle.csv_script.specs.Blocks.{ended}
use Rattle.csv_script.specs.Cells.{cell_text}
use Rattle.csv_rows.specs.Lines.{head_of, lines_text, HaveHeads, IsLine}

-- the record of a row, as the crate `csv` writes it with its defaults
abbrev pub csv_line : List Value → List ℕ
csv_line row = row_text default_writer (map cell_text row)

abbrev pub csv_lines : List (List Value) → List ℕ
csv_lines rows = flat_map csv_line rows

-- the record of the names, where there is one
abbrev pub header_text : List (List ℕ) → List ℕ
header_text names = if length names == 0 then [] else row_text default_writer names

-- the writer is at the start of a record
pub record IsFresh {W : Type 0} (writer : Writer W) : Type 0 where
  pub setup : writer_setup writer ≡ default_writer
  pub fields : fields_written writer ≡ 0
  pub wrote : has_written writer ≡ false

-- the bytes up to a result's rows: `number` counts the results, and this one is the last of them
pub record IsFound (bytes : List ℕ) (number count : ℕ) (left : Option (List ℕ)) : Type 0 where
  pub lines : List (List ℕ)
  pub before : ℕ
  pub rest : List ℕ
  pub bytes_are : bytes ≡ lines_text lines ++ (ended (head_of count) ++ rest)
  pub are_lines : AllByRecursion IsLine lines
  pub number_is : number ≡ before + 1
  pub heads : HaveHeads lines before
  pub left_is : left ≡ Some rest

-- the bytes begin with the lines of these rows
pub record AreRows (bytes : List ℕ) (rows : List (List Value)) (left : Option (List ℕ)) : Type 0 where
  pub rest : List ℕ
  pub loose : AllByRecursion (AllByRecursion IsLoose) rows
  pub bytes_are : bytes ≡ lines_text (map row_spelling rows) ++ rest
  pub left_is : left ≡ Some rest

-- so many rows were written
pub record AreWritten (bytes : List ℕ) (count : ℕ) (left before now : Option (List ℕ)) : Type 0 where
  pub rows : List (List Value)
  pub count_is : length rows ≡ count
  pub are_rows : AreRows bytes rows left
  pub wrote : Appends before now (csv_lines rows)

-- The result of this number, counted from 1, was written: behind the lines before it, of which so many begin a result,
-- stand its head and the lines of its rows, and what was written is the header and the CSV of these rows.
pub record IsConverted (bytes : List ℕ) (number : ℕ) (names : List (List ℕ)) (before now : Option (List ℕ)) : Type 0 where
  pub lines : List (List ℕ)
  pub results : ℕ
  pub rows : List (List Value)
  pub rest : List ℕ
  pub bytes_are : bytes ≡ lines_text lines ++ (ended (head_of (length rows)) ++ (lines_text (map row_spelling rows) ++ rest))
  pub are_lines : AllByRecursion IsLine lines
  pub number_is : number ≡ results + 1
  pub heads : HaveHeads lines results
  pub loose : AllByRecursion (AllByRecursion IsLoose) rows
  pub wrote : Appends before now (header_text names ++ csv_lines rows)

-- the line spells a row, and the fields are the row's cells
pub record IsWhole (line : List ℕ) (fields : List (List ℕ)) : Type 0 where
  pub row : List Value
  pub loose : AllByRecursion IsLoose row
  pub line_is : line ≡ row_spelling row
  pub cells : fields ≡ map cell_text row

-- a number or a truth value, which stands in a cell as in a row line
pub record IsWord (word : List ℕ) : Type 0 where
  pub value : Value
  pub loose : IsLoose value
  pub spelled : word ≡ value_spelling value
  pub cell : word ≡ cell_text value
