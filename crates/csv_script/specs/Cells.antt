-- How a value stands in a field of CSV.
use Rattle.std.specs.Prelude.{◌≡◌, ◌≢◌, ◌<◌, ◌==◌, length, if◌then◌else◌, ℕ, List, [], ◌∷◌, ◌++◌}
use Rattle.std.specs.Fmt.{signed_decimal}
use Rattle.rows_core.specs.declared.kind.Kind.{Kind}
use Rattle.rows_core.specs.declared.value.Value.{Value}
use Rattle.rows_core.specs.declared.value.Value.TheVariants.{Int, Text, Bool as Truth}
use Rattle.rows_core.specs.declared.kind.Kind.TheVariants as the_kind
use Rattle.rows_core.specs.Txt.{IsText}
use Rattle.rows_core.specs.Value.{kind_of}
use Rattle.row_text.specs.RowSpelling.{truth_spelling, value_spelling, IsLoose, IsShort}

-- a number in decimal: 0, or digits of which the first isn't 0, behind a `-` where it is negative; a text as it is; `true`
-- or `false`
abbrev pub cell_text : Value → List ℕ
cell_text (Int number) = signed_decimal number
cell_text (Text text) = text
cell_text (Truth truth) = truth_spelling truth

-- the field says this value, of this kind: a number in i64, a text of 1,000 bytes at most, or a truth value
pub record IsCell (kind : Kind) (field : List ℕ) (value : Value) : Type 0 where
  pub kind_is : kind_of value ≡ kind
  pub loose : IsLoose value
  pub short : IsShort value
  pub text : field ≡ cell_text value

-- what stands before the value of a column, counted from 0: a comma, but for the first
abbrev pub separator : ℕ → List ℕ
separator column = if column == 0 then [] else 44 ∷ []

-- the field says no value of the kind, with a text of any length
abbrev pub SaysNone : Kind → List ℕ → Type 0
SaysNone kind field = (value : Value) → kind_of value ≡ kind → IsLoose value → field ≢ cell_text value

-- the field is a text of more than 1,000 bytes
abbrev pub IsLongText : Kind → List ℕ → Type 0
IsLongText kind field = (kind ≡ the_kind.Text) × IsText field × (1000 < length field)

-- a value is spelled at the front of the bytes, up to the rest, and the fields have its cell more, where none was begun
pub record IsValueAt (bytes rest : List ℕ) (before now : List (List ℕ)) (begun : List ℕ) : Type 0 where
  pub value : Value
  pub loose : IsLoose value
  pub spelled : bytes ≡ value_spelling value ++ rest
  pub added : begun ≡ [] → now ≡ before ++ cell_text value ∷ []
