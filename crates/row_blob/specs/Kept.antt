-- Which kept forms are of a shape, within the bounds of a file.
use Rattle.std.specs.Prelude.{◌≡◌, ℕ, ℤ, pos, negsuc, ◌-◌, ◌^◌, ◌<◌, ◌≤◌, false, List, [], ◌∷◌, ◌++◌, length, map, slice_get, Option, Some, None}
use Rattle.std.specs.Int.{w64}
use Rattle.std.specs.Int.RustNames.{FitsSigned}
use Rattle.std.specs.List.{list_any}
use Rattle.rows_core.specs.declared.kind.Kind as kind
use Rattle.rows_core.specs.declared.kind.Kind.TheVariants as the_kind
use Rattle.rows_core.specs.declared.value.Value.{Value}
use Rattle.rows_core.specs.declared.value.Value.TheVariants as value
use Rattle.rows_core.specs.Txt.{IsTxt}
use Rattle.rows_core.specs.Value.{row_eq}
use Rattle.row_blob.specs.declared.kept.Acc.{Acc}
use Rattle.row_blob.specs.declared.kept.Acc.TheVariants as acc
use Rattle.row_blob.specs.declared.kept.GroupRow.{GroupRow}
use Rattle.row_blob.specs.declared.kept.TaggedRow.{TaggedRow}
use Rattle.row_blob.specs.declared.kept.Kept.{Kept}
use Rattle.row_blob.specs.declared.kept.Kept.TheVariants as kept
use Rattle.row_blob.specs.declared.shape.AccKind.{AccKind}
use Rattle.row_blob.specs.declared.shape.AccKind.TheVariants as acc_kind
use Rattle.row_blob.specs.declared.shape.Shape.{Shape}
use Rattle.row_blob.specs.declared.shape.Shape.TheVariants as shape

-- a number in i64, a text of 1,000 bytes at most, or a truth value
abbrev pub IsValue : kind.Kind → Value → Type 0
IsValue the_kind.Int (value.Int n) = FitsSigned w64 n
IsValue the_kind.Text (value.Text t) = IsTxt t
IsValue the_kind.Bool (value.Bool b) = Unit {0}
IsValue _ _ = ⊥

-- one of each kind, in order
abbrev pub AreEach : {K A : Type 0} → (K → A → Type 0) → List K → List A → Type 0
AreEach P [] [] = Unit {0}
AreEach P [] (x ∷ xs) = ⊥
AreEach P (k ∷ ks) [] = ⊥
AreEach P (k ∷ ks) (x ∷ xs) = P k x × AreEach P ks xs

abbrev pub IsRow : List kind.Kind → List Value → Type 0
IsRow kinds row = AreEach IsValue kinds row

-- from 1 to 2^32 - 1
abbrev pub IsCount : ℕ → Type 0
IsCount n = (1 ≤ n) × (n ≤ 4294967295)

-- from -2^95 to 2^95
abbrev pub IsSum : ℤ → Type 0
IsSum (pos n) = n ≤ 2 ^ 95
IsSum (negsuc n) = n < 2 ^ 95

abbrev pub IsAcc : AccKind → Acc → Type 0
IsAcc acc_kind.Count (acc.Count n) = IsCount n
IsAcc acc_kind.Sum (acc.Sum s) = IsSum s
IsAcc acc_kind.Avg (acc.Avg s n) = IsSum s × IsCount n
IsAcc (acc_kind.Pick kind) (acc.Pick v) = IsValue kind v
IsAcc _ _ = ⊥

abbrev pub keys_of : List GroupRow → List (List Value)
keys_of groups = map (λ group. group.key) groups

-- each fits behind those before it
abbrev pub AreInOrder : {A : Type 0} → (List A → A → Type 0) → List A → List A → Type 0
AreInOrder P before [] = Unit {0}
AreInOrder P before (x ∷ xs) = P before x × AreInOrder P (before ++ x ∷ []) xs

-- its key isn't among the keys before it
abbrev pub IsNextGroup : List kind.Kind → List AccKind → List GroupRow → GroupRow → Type 0
IsNextGroup keys kinds before group =
    IsRow keys group.key × AreEach IsAcc kinds group.accs × (list_any (row_eq group.key) (keys_of before) ≡ false)

abbrev pub left_or_zero : Option TaggedRow → ℕ
left_or_zero None = 0
left_or_zero (Some row) = row.left

-- the left position of the last row
abbrev pub last_left : List TaggedRow → ℕ
last_left rows = left_or_zero (slice_get rows (length rows - 1))

-- its position isn't below the one before it, and is below the left length
abbrev pub IsNextTagged : ℕ → List kind.Kind → List TaggedRow → TaggedRow → Type 0
IsNextTagged left kinds before tagged = (last_left before ≤ tagged.left) × (tagged.left < left) × IsRow kinds tagged.row

-- a kept form of the shape
abbrev pub IsKept : Shape → Kept → Type 0
IsKept (shape.Rows kinds) (kept.Rows rows) = (length rows < 2 ^ 64) × AreInOrder (λ before. IsRow kinds) [] rows
IsKept (shape.Groups keys kinds) (kept.Groups groups) = (length groups < 2 ^ 64) × AreInOrder (IsNextGroup keys kinds) [] groups
IsKept (shape.Tagged kinds) (kept.Tagged left rows) =
    (length rows < 2 ^ 64) × (left ≤ 4294967295) × AreInOrder (IsNextTagged left kinds) [] rows
IsKept _ _ = ⊥
