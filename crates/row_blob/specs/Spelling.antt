-- The one spelling of a kept form. Numbers are big-endian, signed ones in two's complement.
use Rattle.std.specs.Prelude.{ℕ, List, [], ◌∷◌, ◌++◌, length}
use Rattle.std.specs.Int.{w64, w128, to_be_bytes}
use Rattle.std.specs.List.{flat_map}
use Rattle.rows_core.specs.declared.value.Value.{Value}
use Rattle.rows_core.specs.declared.value.Value.TheVariants.{Int, Text, Bool}
use Rattle.byte_formats.specs.Format.{signed, text_spelling, byte_of_flag}
use Rattle.row_blob.specs.declared.kept.Acc.{Acc}
use Rattle.row_blob.specs.declared.kept.Acc.TheVariants.{Count, Sum, Avg, Pick}
use Rattle.row_blob.specs.declared.kept.GroupRow.{GroupRow}
use Rattle.row_blob.specs.declared.kept.TaggedRow.{TaggedRow}
use Rattle.row_blob.specs.declared.kept.Kept.{Kept}
use Rattle.row_blob.specs.declared.kept.Kept.TheVariants.{Rows, Groups, Tagged}

-- a number in 8 bytes; a text's length in 4, and its bytes; a truth value in one, 0 or 1
abbrev pub value_spelling : Value → List ℕ
value_spelling (Int n) = signed w64 n
value_spelling (Text t) = text_spelling t
value_spelling (Bool b) = byte_of_flag b ∷ []

abbrev pub row_spelling : List Value → List ℕ
row_spelling row = flat_map value_spelling row

abbrev pub acc_spelling : Acc → List ℕ
acc_spelling (Count n) = to_be_bytes w64 n
acc_spelling (Sum s) = signed w128 s
acc_spelling (Avg s n) = signed w128 s ++ to_be_bytes w64 n
acc_spelling (Pick v) = value_spelling v

-- the key, and then what is kept for each aggregate
abbrev pub group_spelling : GroupRow → List ℕ
group_spelling group = row_spelling group.key ++ flat_map acc_spelling group.accs

-- the left position, and then the row
abbrev pub tagged_spelling : TaggedRow → List ℕ
tagged_spelling tagged = to_be_bytes w64 tagged.left ++ row_spelling tagged.row

-- the four letters, the form, three zero bytes
abbrev pub opening : ℕ → List ℕ
opening form = 78 ∷ 88 ∷ 84 ∷ 49 ∷ form ∷ 0 ∷ 0 ∷ 0 ∷ []

-- and the count of rows or groups
abbrev pub header : ℕ → ℕ → List ℕ
header form count = opening form ++ to_be_bytes w64 count

abbrev pub kept_spelling : Kept → List ℕ
kept_spelling (Rows rows) = header 0 (length rows) ++ flat_map row_spelling rows
kept_spelling (Groups groups) = header 1 (length groups) ++ flat_map group_spelling groups
kept_spelling (Tagged left rows) = (header 2 (length rows) ++ to_be_bytes w64 left) ++ flat_map tagged_spelling rows
