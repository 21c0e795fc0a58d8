-- How the records of a file are read.
use Rattle.std.specs.Prelude.{◌≡◌, ℕ, Bool, List, ◌∷◌, length, Option, Some}
use Rattle.std.specs.Io.KnownBytes.{Appends}
use Rattle.std.specs.List.{AllByRecursion}
use Rattle.csv.specs.Reading.{AreRecords, Reached, Ready, default_config, reader_config, reader_state, reader_trim, source_of, strip_bom}
use Rattle.csv.specs.declared.parser.State.TheVariants as state
use Rattle.csv.specs.declared.reader.Reader.{Reader}
use Rattle.csv.specs.declared.reader.Trim.TheVariants as trim
use Rattle.rows_core.specs.declared.value.Value.{Value}
use Rattle.rows_core.specs.declared.kind.Kind.{Kind}
use Rattle.rows_core.specs.declared.schema.Column.{Column}
use Rattle.rows_core.specs.Schema.{kinds_of}
use Rattle.csv_script.specs.Blocks.{joined, script_text, IsBlock, IsBlocked, IsWritten}
use Rattle.csv_script.specs.Records.{ArePicks, AreRowsOf}
use Rattle.csv_script.specs.declared.pick.Pick.{Pick}

-- the reader took these records from the front of a text, and reads the next one
pub record IsReading {R : Type 0} (left : R → Option (List ℕ)) (text : List ℕ) (records : List (List (List ℕ))) (reader : Reader R) : Type 0 where
  pub trim_is : reader_trim reader ≡ trim.None
  pub ready : Ready reader
  pub config_is : reader_config reader ≡ default_config
  pub rest : List ℕ
  pub source : source_of left reader ≡ Some rest
  pub reached : Reached default_config state.StartRecord (strip_bom text) records (reader_state reader) rest

-- these are the records of a text, as the crate `csv` reads it with its defaults
abbrev pub AreRecordsOf : List ℕ → List (List (List ℕ)) → Type 0
AreRecordsOf text records = AreRecords default_config state.StartRecord (strip_bom text) records

-- what a conversion asks for, and where it begins
pub record Task : Type 0 where
  pub kinds : List Kind
  pub name : List ℕ
  pub skips : Bool
  pub picks : List Pick
  pub width : ℕ
  pub before : Option (List ℕ)

-- the records are these rows, which were written but for those of the open block
pub record AreTaken (skips : Bool) (picks : List Pick) (width : ℕ) (records : List (List (List ℕ))) (skipped : ℕ)
    (kinds : List Kind) (name : List ℕ) (before now : Option (List ℕ)) (lines : List ℕ) : Type 0 where
  pub rows : List (List Value)
  pub rows_are : AreRowsOf skips picks width records rows skipped
  pub blocked : IsBlocked kinds name before now lines rows

-- so many records behind the header so far, and the rows that they are
pub record IsUnderWay {R : Type 0} (left : R → Option (List ℕ)) (text : List ℕ) (header : List (List ℕ)) (task : Task)
    (reader : Reader R) (now : Option (List ℕ)) (lines : List ℕ) (count skipped : ℕ) : Type 0 where
  pub records : List (List (List ℕ))
  pub count_is : length records ≡ count
  pub reading : IsReading left text (header ∷ records) reader
  pub taken : AreTaken task.skips task.picks task.width records skipped task.kinds task.name task.before now lines

-- all records behind the header are these rows, which were written
pub record IsDone (text : List ℕ) (header : List (List ℕ)) (task : Task) (now : Option (List ℕ)) (skipped : ℕ) : Type 0 where
  pub records : List (List (List ℕ))
  pub rows : List (List Value)
  pub are_records : AreRecordsOf text (header ∷ records)
  pub rows_are : AreRowsOf task.skips task.picks task.width records rows skipped
  pub written : IsWritten task.kinds task.name task.before now rows

-- to append the rows of a stream with these columns
abbrev pub task_of : Bool → List ℕ → List Column → List Pick → ℕ → Option (List ℕ) → Task
task_of skips name columns picks width before = record {
  kinds = kinds_of columns;
  name = name;
  skips = skips;
  picks = picks;
  width = width;
  before = before;
}

-- A text was converted: its records are a header, which tells where the columns stand, and rows, but for so many that
-- were left out. What was written is the script of these rows, in blocks.
pub record IsConverted (declares skips : Bool) (name : List ℕ) (columns : List Column) (text : List ℕ) (before now : Option (List ℕ)) (skipped : ℕ) : Type 0 where
  pub header : List (List ℕ)
  pub records : List (List (List ℕ))
  pub picks : List Pick
  pub blocks : List (List (List Value))
  pub are_records : AreRecordsOf text (header ∷ records)
  pub are_picks : ArePicks header columns picks
  pub rows_are : AreRowsOf skips picks (length header) records (joined blocks) skipped
  pub all : AllByRecursion (IsBlock (kinds_of columns)) blocks
  pub wrote : Appends before now (script_text declares name columns blocks)
