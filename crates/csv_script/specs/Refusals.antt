-- Why no whole script was written.
use Rattle.std.specs.Prelude.{◌≡◌, ◌≢◌, ◌<◌, ◌+◌, ℕ, Bool, false, List, [], ◌∷◌, ◌++◌, length, slice_get, Option, Some, ⊤}
use Rattle.std.specs.Io.KnownBytes.{Appends}
use Rattle.std.specs.List.{AllByRecursion}
use Rattle.csv.specs.Reading.{Reached, default_config, strip_bom}
use Rattle.csv.specs.Records.{field_at}
use Rattle.csv.specs.declared.parser.State.{State}
use Rattle.csv.specs.declared.parser.State.TheVariants as state
use Rattle.rows_core.specs.declared.value.Value.{Value}
use Rattle.rows_core.specs.declared.schema.Column.{Column}
use Rattle.rows_core.specs.Schema.{kinds_of}
use Rattle.csv_script.specs.Blocks.{blocks_text, joined, script_text, IsBlock}
use Rattle.csv_script.specs.Reading.{AreRecordsOf, Task}
use Rattle.csv_script.specs.Records.{ArePicks, AreRowsOf, IsFor}
use Rattle.csv_script.specs.declared.append.AppendRefusal.{AppendRefusal}
use Rattle.csv_script.specs.declared.append.AppendRefusal.TheVariants as append
use Rattle.csv_script.specs.declared.header.HeaderRefusal.{HeaderRefusal}
use Rattle.csv_script.specs.declared.header.HeaderRefusal.TheVariants as header
use Rattle.csv_script.specs.declared.header.NameRefusal.{NameRefusal}
use Rattle.csv_script.specs.declared.header.NameRefusal.TheVariants as named
use Rattle.csv_script.specs.declared.pick.Pick.{Pick}
use Rattle.csv_script.specs.declared.record.RecordRefusal.{RecordRefusal}
use Rattle.csv_script.specs.declared.record.RecordRefusal.TheVariants as refusal

-- ---- the header

-- two of the fields are this name
pub record IsRepeated (name : List ℕ) (fields : List (List ℕ)) : Type 0 where
  pub first : ℕ
  pub second : ℕ
  pub apart : first < second
  pub is_first : field_at fields first ≡ Some name
  pub is_second : field_at fields second ≡ Some name

-- why a name has no place: none of the fields is this name, or two are
abbrev pub IsForName : List ℕ → List (List ℕ) → NameRefusal → Type 0
IsForName name fields named.Missing = (k : ℕ) → field_at fields k ≢ Some name
IsForName name fields named.Repeated = IsRepeated name fields

-- the column at this place has no place in the header, for this
pub record IsOfColumn (columns : List Column) (fields : List (List ℕ)) (at : ℕ) (why : NameRefusal) : Type 0 where
  pub column : Column
  pub here : slice_get columns at ≡ Some column
  pub cause : IsForName column.name fields why

-- why the header doesn't tell where the columns stand
abbrev pub IsForHeader : List Column → List (List ℕ) → HeaderRefusal → Type 0
IsForHeader columns fields (header.Missing at) = IsOfColumn columns fields at named.Missing
IsForHeader columns fields (header.Repeated at) = IsOfColumn columns fields at named.Repeated
IsForHeader columns fields header.Memory = ⊤

-- ---- a record

-- these records stand at the front of a text, as the crate `csv` reads it with its defaults
abbrev pub AreFirstRecordsOf : List ℕ → List (List (List ℕ)) → Type 0
AreFirstRecordsOf text records = (s : State) × (rest : List ℕ) × Reached default_config state.StartRecord (strip_bom text) records s rest

-- a read, a write or the asking for memory failed
abbrev pub HasFailed : AppendRefusal → Type 0
HasFailed append.Input = ⊤
HasFailed append.Output = ⊤
HasFailed append.Memory = ⊤
HasFailed append.NoHeader = ⊥
HasFailed (append.Header why) = ⊥
HasFailed (append.Record number line why) = ⊥

-- the record is refused as no row, and nothing was written since
pub record IsNotTaken (skips : Bool) (picks : List Pick) (width : ℕ) (fields : List (List ℕ)) (why : RecordRefusal)
    (before now : Option (List ℕ)) : Type 0 where
  pub stays : skips ≡ false
  pub cause : IsFor picks width fields why
  pub not_memory : why ≢ refusal.Memory
  pub same : now ≡ before

-- why the record of this number wasn't taken
abbrev pub IsUntaken : Bool → List Pick → ℕ → List (List ℕ) → ℕ → Option (List ℕ) → Option (List ℕ) → AppendRefusal → Type 0
IsUntaken skips picks width fields number before now (append.Record n line why) =
    (n ≡ number) × IsNotTaken skips picks width fields why before now
IsUntaken skips picks width fields number before now why = HasFailed why

-- The record of this number, counted from 1 behind the header, is no row. Those before it are rows, and in blocks of one row
-- or more some of them were written, from the first on.
pub record IsStopped (text : List ℕ) (header : List (List ℕ)) (task : Task) (now : Option (List ℕ)) (number : ℕ) (why : RecordRefusal) : Type 0 where
  pub records : List (List (List ℕ))
  pub fields : List (List ℕ)
  pub blocks : List (List (List Value))
  pub others : List (List Value)
  pub stays : task.skips ≡ false
  pub number_is : number ≡ length records + 1
  pub are_first : AreFirstRecordsOf text (header ∷ (records ++ fields ∷ []))
  pub cause : IsFor task.picks task.width fields why
  pub not_memory : why ≢ refusal.Memory
  pub rows_are : AreRowsOf false task.picks task.width records (joined blocks ++ others) 0
  pub all : AllByRecursion (IsBlock task.kinds) blocks
  pub wrote : Appends task.before now (blocks_text task.name blocks)

-- why the rows behind the header weren't written
abbrev pub IsUnwritten : List ℕ → List (List ℕ) → Task → Option (List ℕ) → AppendRefusal → Type 0
IsUnwritten text header task now (append.Record number line why) = IsStopped text header task now number why
IsUnwritten text header task now why = HasFailed why

-- ---- the whole

-- The record of this number, counted from 1 behind the header, is no row, for this. The header tells where the columns stand,
-- the records before this one are rows, and what was written is the script of some of them, from the first on.
pub record StopsAt (declares : Bool) (name : List ℕ) (columns : List Column) (text : List ℕ) (before now : Option (List ℕ)) (number : ℕ) (why : RecordRefusal) : Type 0 where
  pub header : List (List ℕ)
  pub records : List (List (List ℕ))
  pub fields : List (List ℕ)
  pub picks : List Pick
  pub blocks : List (List (List Value))
  pub others : List (List Value)
  pub number_is : number ≡ length records + 1
  pub are_first : AreFirstRecordsOf text (header ∷ (records ++ fields ∷ []))
  pub are_picks : ArePicks header columns picks
  pub cause : IsFor picks (length header) fields why
  pub not_memory : why ≢ refusal.Memory
  pub rows_are : AreRowsOf false picks (length header) records (joined blocks ++ others) 0
  pub all : AllByRecursion (IsBlock (kinds_of columns)) blocks
  pub wrote : Appends before now (script_text declares name columns blocks)

-- the first record of the text doesn't tell where the columns stand, and nothing was written
pub record HasBadHeader (columns : List Column) (text : List ℕ) (before now : Option (List ℕ)) (why : HeaderRefusal) : Type 0 where
  pub header : List (List ℕ)
  pub is_first : AreFirstRecordsOf text (header ∷ [])
  pub cause : IsForHeader columns header why
  pub same : now ≡ before

-- why no whole script was written: the text has no record, its first is no header, or one behind it is no row, where such
-- records aren't left out; or else a read, a write or the asking for memory failed
abbrev pub IsRefusedFor : Bool → Bool → List ℕ → List Column → List ℕ → Option (List ℕ) → Option (List ℕ) → AppendRefusal → Type 0
IsRefusedFor declares skips name columns text before now append.NoHeader = AreRecordsOf text [] × (now ≡ before)
IsRefusedFor declares skips name columns text before now (append.Header why) = HasBadHeader columns text before now why
IsRefusedFor declares skips name columns text before now (append.Record number line why) =
    (skips ≡ false) × StopsAt declares name columns text before now number why
IsRefusedFor declares skips name columns text before now why = HasFailed why
