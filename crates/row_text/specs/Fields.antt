-- What stands between commas.
use Rattle.std.specs.Prelude.{◌≡◌, ◌≢◌, ℕ, List, [], ◌∷◌, map}
use Rattle.std.specs.List.{AllByRecursion}
use Rattle.rows_core.specs.declared.value.Value.{Value}
use Rattle.rows_core.specs.declared.value.Value.TheVariants as value
use Rattle.row_text.specs.declared.field.Field.{Field}
use Rattle.row_text.specs.declared.field.Field.TheVariants.{Int, Text, Bool}

-- a field as a value with a text of any length
abbrev pub value_of : Field → Value
value_of (Int number) = value.Int number
value_of (Text text) = value.Text text
value_of (Bool truth) = value.Bool truth

abbrev pub values_of : List Field → List Value
values_of fields = map value_of fields

-- a value ends here: the line does, or a comma stands here
abbrev pub Ends : List ℕ → Type 0
Ends [] = Unit {0}
Ends (byte ∷ bytes) = byte ≡ 44

abbrev pub HasNoComma : List ℕ → Type 0
HasNoComma bytes = AllByRecursion (λ byte. byte ≢ 44) bytes
