-- How a row is spelled in a line.
use Rattle.std.specs.Prelude.{◌≡◌, ◌⊎◌, ◌<◌, ◌≤◌, ℕ, Bool, true, false, ◌||◌, ◌==◌, if◌then◌else◌, List, [], ◌∷◌, ◌++◌, length, map, codes, FitsSigned}
use Rattle.std.specs.List.{flat_map, AllByRecursion}
use Rattle.std.specs.Int.{w64}
use Rattle.std.specs.Fmt.{signed_decimal}
use Rattle.rows_core.specs.declared.kind.Kind.{Kind}
use Rattle.rows_core.specs.declared.value.Value.{Value}
use Rattle.rows_core.specs.declared.value.Value.TheVariants.{Int, Text, Bool as Truth}
use Rattle.rows_core.specs.Txt.{IsText}
use Rattle.rows_core.specs.Value.{kind_of}

-- `"` and `\` stand behind a `\`
abbrev pub is_escaped : ℕ → Bool
is_escaped byte = (byte == 34) || (byte == 92)

abbrev pub byte_spelling : ℕ → List ℕ
byte_spelling byte = if is_escaped byte then 92 ∷ byte ∷ [] else byte ∷ []

-- the bytes of a text up to its end, between two `"`
abbrev pub text_spelling : List ℕ → List ℕ
text_spelling text = 34 ∷ (flat_map byte_spelling text ++ 34 ∷ [])

abbrev pub truth_spelling : Bool → List ℕ
truth_spelling true = codes "true"
truth_spelling false = codes "false"

-- a number in decimal: 0, or digits of which the first isn't 0, behind a `-` where it is negative
abbrev pub value_spelling : Value → List ℕ
value_spelling (Int number) = signed_decimal number
value_spelling (Text text) = text_spelling text
value_spelling (Truth truth) = truth_spelling truth

-- each value behind a comma
abbrev pub more_spelling : List Value → List ℕ
more_spelling values = flat_map (λ value. 44 ∷ value_spelling value) values

-- the values, separated by single commas
abbrev pub row_spelling : List Value → List ℕ
row_spelling [] = []
row_spelling (value ∷ values) = value_spelling value ++ more_spelling values

-- a number in i64, a text of any length, or a truth value
abbrev pub IsLoose : Value → Type 0
IsLoose (Int number) = FitsSigned w64 number
IsLoose (Text text) = IsText text
IsLoose (Truth truth) = Unit {0}

-- a row of these kinds, with texts of any length
abbrev pub IsLooseRow : List Kind → List Value → Type 0
IsLooseRow kinds row = (map kind_of row ≡ kinds) × AllByRecursion IsLoose row

-- no text above 1,000 bytes
abbrev pub IsShort : Value → Type 0
IsShort (Int number) = Unit {0}
IsShort (Text text) = length text ≤ 1000
IsShort (Truth truth) = Unit {0}

-- a text above 1,000 bytes
abbrev pub IsLong : Value → Type 0
IsLong (Int number) = ⊥
IsLong (Text text) = 1000 < length text
IsLong (Truth truth) = ⊥

-- some text is above 1,000 bytes
abbrev pub HasLong : List Value → Type 0
HasLong [] = ⊥
HasLong (value ∷ values) = IsLong value ⊎ HasLong values
