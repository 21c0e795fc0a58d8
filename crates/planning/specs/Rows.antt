-- What the row lines of an append spell.
use Rattle.std.specs.Prelude.{◌≡◌, ◌≢◌, ℕ, ◌+◌, Bool, false, nat_lt, List, ◌∷◌, ◌++◌, length, map, IsTrue, ⊤}
use Rattle.std.specs.List.{list_any, AllByRecursion}
use Rattle.rows_core.specs.declared.kind.Kind.{Kind}
use Rattle.rows_core.specs.declared.value.Value.{Value}
use Rattle.rows_core.specs.declared.value.Value.TheVariants.{Int, Text, Bool as Truth}
use Rattle.script_text.specs.declared.answer.LimitKind.TheVariants as limit
use Rattle.script_text.specs.declared.answer.Refusal.{Refusal}
use Rattle.script_text.specs.declared.answer.Refusal.TheVariants.{Limit, Row, Memory}
use Rattle.row_text.specs.RowSpelling.{row_spelling, IsLooseRow}

-- the lines spell these rows, one each, of these kinds and with texts of any length
pub record Spell (kinds : List Kind) (lines : List (List ℕ)) (rows : List (List Value)) : Type 0 where
  pub loose : AllByRecursion (IsLooseRow kinds) rows
  pub spelled : lines ≡ map row_spelling rows

-- the line spells a row of these kinds, with texts of any length
abbrev pub SpellsRow : List Kind → List ℕ → Type 0
SpellsRow kinds line = (row : List Value) × IsLooseRow kinds row × (line ≡ row_spelling row)

-- the line spells no such row
abbrev pub SpellsNone : List Kind → List ℕ → Type 0
SpellsNone kinds line = (row : List Value) → IsLooseRow kinds row → line ≢ row_spelling row

-- the line of this number, counted from 1, is the first that spells no such row
pub record IsFirstBad (kinds : List Kind) (lines : List (List ℕ)) (number : ℕ) : Type 0 where
  pub before : List (List ℕ)
  pub line : List ℕ
  pub others : List (List ℕ)
  pub rows : List (List Value)
  pub parts : lines ≡ before ++ line ∷ others
  pub spell : Spell kinds before rows
  pub number_is : number ≡ length before + 1
  pub bad : SpellsNone kinds line

-- what the lines spell: a row each, or no row on the first bad line, by its number
pub data Reading : Type 0 where
  Rows : List (List Value) → Reading
  BadLine : ℕ → Reading

abbrev pub Reads : List Kind → List (List ℕ) → Reading → Type 0
Reads kinds lines (Rows rows) = Spell kinds lines rows
Reads kinds lines (BadLine number) = IsFirstBad kinds lines number

-- a text above 1,000 bytes
abbrev pub is_long : Value → Bool
is_long (Int number) = false
is_long (Truth truth) = false
is_long (Text text) = nat_lt 1000 (length text)

-- some text of these rows is above 1,000 bytes
abbrev pub have_long : List (List Value) → Bool
have_long rows = list_any (list_any is_long) rows

-- the lines spell rows, of which one has a text above 1,000 bytes
abbrev pub SpellLong : List Kind → List (List ℕ) → Type 0
SpellLong kinds lines = (rows : List (List Value)) × Spell kinds lines rows × IsTrue (have_long rows)

-- the lines are refused for this: a bad line comes before a long text
abbrev pub AreRefused : List Kind → List (List ℕ) → Refusal → Type 0
AreRefused kinds lines (Row number) = IsFirstBad kinds lines number
AreRefused kinds lines (Limit limit.Text) = SpellLong kinds lines
AreRefused kinds lines Memory = ⊤
AreRefused kinds lines _ = ⊥
