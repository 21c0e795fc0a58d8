-- Where reading stops: at the first byte such that no spelling has the same bytes up to and with it, or at the length
-- of the bytes where some are missing. Two rules count only where they are broken, at the last byte of a key that stood
-- before, and of a left position that falls or isn't below the left length.
use Rattle.std.specs.Prelude.{◌≡◌, ℕ, ◌+◌, ◌^◌, ◌<◌, ◌≤◌, false, List, [], length, take}
use Rattle.std.specs.List.{list_any, flat_map}
use Rattle.rows_core.specs.declared.kind.Kind as kind
use Rattle.row_blob.specs.declared.kept.GroupRow.{GroupRow}
use Rattle.row_blob.specs.declared.kept.TaggedRow.{TaggedRow}
use Rattle.row_blob.specs.declared.kept.Kept.{Kept}
use Rattle.row_blob.specs.declared.kept.Kept.TheVariants as kept
use Rattle.row_blob.specs.declared.refusal.BlobRefusal.{BlobRefusal}
use Rattle.row_blob.specs.declared.refusal.BlobRefusal.TheVariants as refusal
use Rattle.row_blob.specs.declared.shape.AccKind.{AccKind}
use Rattle.row_blob.specs.declared.shape.Shape.{Shape}
use Rattle.row_blob.specs.declared.shape.Shape.TheVariants as shape
use Rattle.row_blob.specs.Spelling.{row_spelling, group_spelling, tagged_spelling, kept_spelling}
use Rattle.rows_core.specs.Value.{row_eq}
use Rattle.row_blob.specs.Kept.{keys_of, last_left, AreEach, AreInOrder, IsRow, IsAcc, IsKept}

-- a group behind those before it: its key is new, if it ends within the first n bytes
abbrev pub IsGroupTo : List kind.Kind → List AccKind → ℕ → List GroupRow → GroupRow → Type 0
IsGroupTo keys kinds n before group =
    IsRow keys group.key × AreEach IsAcc kinds group.accs
    × (16 + length (flat_map group_spelling before) + length (row_spelling group.key) ≤ n → list_any (row_eq group.key) (keys_of before) ≡ false)

-- a row of a join behind those before it: its position is in order, if it ends within the first n bytes
abbrev pub IsTaggedTo : ℕ → List kind.Kind → ℕ → List TaggedRow → TaggedRow → Type 0
IsTaggedTo left kinds n before tagged =
    (tagged.left < 2 ^ 64) × IsRow kinds tagged.row
    × (24 + length (flat_map tagged_spelling before) + 8 ≤ n → (last_left before ≤ tagged.left) × (tagged.left < left))

-- a kept form of the shape, but for the two rules behind the first n bytes of its spelling
abbrev pub IsKeptTo : ℕ → Shape → Kept → Type 0
IsKeptTo n (shape.Rows kinds) (kept.Rows rows) = IsKept (shape.Rows kinds) (kept.Rows rows)
IsKeptTo n (shape.Groups keys kinds) (kept.Groups groups) =
    (length groups < 2 ^ 64) × AreInOrder (IsGroupTo keys kinds n) [] groups
IsKeptTo n (shape.Tagged kinds) (kept.Tagged left rows) =
    (length rows < 2 ^ 64) × (left ≤ 4294967295) × AreInOrder (IsTaggedTo left kinds n) [] rows
IsKeptTo n _ _ = ⊥

-- a spelling has the same first n bytes
abbrev pub GoesOn : Shape → List ℕ → ℕ → Type 0
GoesOn shape bytes n = (kept : Kept) × IsKeptTo n shape kept × (take n (kept_spelling kept) ≡ take n bytes)

-- the first bytes up to the place go on, and not with the byte that stands there
abbrev pub StopsAt : Shape → List ℕ → ℕ → Type 0
StopsAt shape bytes at =
    (at ≤ length bytes) × GoesOn shape bytes at × (at < length bytes → GoesOn shape bytes (at + 1) → ⊥)

-- what a refusal says
abbrev pub IsPlace : Shape → List ℕ → BlobRefusal → Type 0
IsPlace shape bytes refusal.Memory = Unit {0}
IsPlace shape bytes (refusal.NotBlob at) = StopsAt shape bytes at
