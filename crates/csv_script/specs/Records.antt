-- Which row a record of CSV is.
use Rattle.std.specs.Prelude.{◌≡◌, ◌≢◌, ◌⊎◌, ◌+◌, ℕ, Bool, List, [], ◌∷◌, length, slice_get, unwrap_or, Some, IsTrue, ⊤}
use Rattle.csv.specs.Records.{field_at}
use Rattle.rows_core.specs.declared.value.Value.{Value}
use Rattle.rows_core.specs.declared.schema.Column.{Column}
use Rattle.csv_script.specs.Cells.{IsCell, IsLongText, SaysNone}
use Rattle.csv_script.specs.declared.pick.Pick.{Pick}
use Rattle.csv_script.specs.declared.record.RecordRefusal.{RecordRefusal}
use Rattle.csv_script.specs.declared.record.RecordRefusal.TheVariants as refusal

-- the one field of the header that is this name stands at this place
pub record IsAt (name : List ℕ) (header : List (List ℕ)) (place : ℕ) : Type 0 where
  pub here : field_at header place ≡ Some name
  pub alone : (k : ℕ) → field_at header k ≡ Some name → k ≡ place

-- the place of a column in the header, and its kind
pub record IsPick (header : List (List ℕ)) (column : Column) (pick : Pick) : Type 0 where
  pub place : IsAt column.name header pick.place
  pub kind : pick.kind ≡ column.kind

-- one for each column, in the order of the columns
abbrev pub ArePicks : List (List ℕ) → List Column → List Pick → Type 0
ArePicks header [] [] = Unit {0}
ArePicks header [] (pick ∷ picks) = ⊥
ArePicks header (column ∷ columns) [] = ⊥
ArePicks header (column ∷ columns) (pick ∷ picks) = IsPick header column pick × ArePicks header columns picks

-- the field at the place, which is within the header
abbrev pub field_of : List (List ℕ) → Pick → List ℕ
field_of fields pick = unwrap_or (field_at fields pick.place) []

-- the fields at the places say the row's values
abbrev pub ArePicked : List (List ℕ) → List Pick → List Value → Type 0
ArePicked fields [] [] = Unit {0}
ArePicked fields [] (value ∷ row) = ⊥
ArePicked fields (pick ∷ picks) [] = ⊥
ArePicked fields (pick ∷ picks) (value ∷ row) = IsCell pick.kind (field_of fields pick) value × ArePicked fields picks row

-- the record is this row: it has as many fields as the header, and those at the places say the row's values
pub record IsRowOf (picks : List Pick) (width : ℕ) (fields : List (List ℕ)) (row : List Value) : Type 0 where
  pub width_is : length fields ≡ width
  pub values : ArePicked fields picks row

-- the record is no row
abbrev pub IsNoRow : List Pick → ℕ → List (List ℕ) → Type 0
IsNoRow picks width fields = (row : List Value) → IsRowOf picks width fields row → ⊥

-- the rows of records, in order; those that are no row are left out, where that is asked for, and counted
abbrev pub AreRowsOf : Bool → List Pick → ℕ → List (List (List ℕ)) → List (List Value) → ℕ → Type 0
AreRowsOf skips picks width [] rows skipped = (rows ≡ []) × (skipped ≡ 0)
AreRowsOf skips picks width (fields ∷ records) rows skipped =
    ((row : List Value) × (others : List (List Value)) × IsRowOf picks width fields row × (rows ≡ row ∷ others)
    × AreRowsOf skips picks width records others skipped)
    ⊎ (IsTrue skips × IsNoRow picks width fields × (before : ℕ) × (skipped ≡ before + 1)
    × AreRowsOf skips picks width records rows before)

-- the pick of the column at this place
pub record IsAtColumn (picks : List Pick) (column : ℕ) (P : Pick → Type 0) : Type 0 where
  pub pick : Pick
  pub here : slice_get picks column ≡ Some pick
  pub holds : P pick

-- why a record is no row
abbrev pub IsFor : List Pick → ℕ → List (List ℕ) → RecordRefusal → Type 0
IsFor picks width fields refusal.Width = length fields ≢ width
IsFor picks width fields (refusal.NotOfKind column) = IsAtColumn picks column (λ pick. SaysNone pick.kind (field_of fields pick))
IsFor picks width fields (refusal.TooLong column) = IsAtColumn picks column (λ pick. IsLongText pick.kind (field_of fields pick))
IsFor picks width fields refusal.Memory = ⊤
