-- What bytes are read as, from left to right: a value with the bytes after it, or how many bytes are left from the
-- place where reading stops. The functions that read are told in these words; `Kept` and `Place` say what a file is and
-- where it stops without them.
use Rattle.std.specs.Prelude.{◌≡◌, ℕ, zero, suc, ℤ, ◌-◌, ◌^◌, ◌||◌, nat_lt, nat_le, if◌then◌else◌, List, [], ◌∷◌, ◌++◌, length, slice_index, Result, Ok, Err}
use Rattle.std.specs.Int.{w64, w128, cast_signed}
use Rattle.std.specs.List.{list_any}
use Rattle.rows_core.specs.declared.kind.Kind as kind
use Rattle.rows_core.specs.declared.kind.Kind.TheVariants as the_kind
use Rattle.rows_core.specs.declared.value.Value.{Value}
use Rattle.rows_core.specs.declared.value.Value.TheVariants as value
use Rattle.row_blob.specs.declared.kept.Acc.{Acc}
use Rattle.row_blob.specs.declared.kept.Acc.TheVariants as acc
use Rattle.row_blob.specs.declared.kept.GroupRow.{GroupRow}
use Rattle.row_blob.specs.declared.kept.TaggedRow.{TaggedRow}
use Rattle.row_blob.specs.declared.kept.Kept.{Kept}
use Rattle.row_blob.specs.declared.kept.Kept.TheVariants as kept
use Rattle.row_blob.specs.declared.shape.AccKind.{AccKind}
use Rattle.row_blob.specs.declared.shape.AccKind.TheVariants as acc_kind
use Rattle.row_blob.specs.declared.shape.Shape.{Shape}
use Rattle.row_blob.specs.declared.shape.Shape.TheVariants as shape
use Rattle.row_blob.specs.declared.refusal.BlobRefusal.{BlobRefusal}
use Rattle.row_blob.specs.declared.refusal.BlobRefusal.TheVariants as refusal
use Rattle.byte_formats.specs.Format.{flag}
use Rattle.byte_formats.specs.Reading.{◌>>=◌, Read, literal_at, number_at, bounded_at, text_at, ended}
use Rattle.row_blob.specs.Spelling.{opening}
use Rattle.rows_core.specs.Value.{row_eq}
use Rattle.row_blob.specs.Kept.{keys_of, last_left}

-- the same for all of len bytes, with the place where reading stops
abbrev pub Reads : {Y : Type 0} → Result Y BlobRefusal → Result Y ℕ → ℕ → Type 0
Reads (Ok y) read len = read ≡ Ok y
Reads (Err refusal.Memory) read len = Unit {0}
Reads (Err (refusal.NotBlob at)) read len = (left : ℕ) × (read ≡ Err left) × (at ≡ len - left)

unfoldable pub value_at : kind.Kind → List ℕ → Read Value
value_at the_kind.Int bytes = do
  n ← number_at w64 bytes
  Ok (value.Int (cast_signed w64 n.0), n.1)
value_at the_kind.Text bytes = do
  t ← text_at bytes
  Ok (value.Text t.0, t.1)
value_at the_kind.Bool bytes = do
  b ← flag.read bytes
  Ok (value.Bool b.0, b.1)

-- one item for each kind, behind the items that were read before
abbrev pub each_at : {K A : Type 0} → (K → List ℕ → Read A) → List K → List A → List ℕ → Read (List A)
each_at read [] front bytes = Ok (front, bytes)
each_at read (k ∷ ks) front bytes = read k bytes >>= λ x. each_at read ks (front ++ x.0 ∷ []) x.1

-- count items, behind those that were read before, which the reader of an item knows
abbrev pub items_at : {A : Type 0} → (List A → List ℕ → Read A) → ℕ → List A → List ℕ → Read (List A)
items_at read zero front bytes = Ok (front, bytes)
items_at read (suc count) front bytes = read front bytes >>= λ x. items_at read count (front ++ x.0 ∷ []) x.1

unfoldable pub row_at : List kind.Kind → List ℕ → Read (List Value)
row_at kinds bytes = each_at value_at kinds [] bytes

-- from -2^95 to 2^95: the numbers of 16 bytes up to 2^95, and those from 2^128 - 2^95
unfoldable pub sum_bound : ℕ
sum_bound = 2 ^ 95

unfoldable pub sum_low : ℕ
sum_low = 2 ^ 128 - 2 ^ 95

unfoldable pub sum_high : ℕ
sum_high = 2 ^ 128 - 1

unfoldable pub sum_at : List ℕ → Read ℤ
sum_at bytes = do
  n ← (if nat_lt (slice_index bytes 0) 128 then bounded_at w128 0 sum_bound bytes else bounded_at w128 sum_low sum_high bytes)
  Ok (cast_signed w128 n.0, n.1)

-- from 1 to 2^32 - 1
unfoldable pub count_at : List ℕ → Read ℕ
count_at bytes = bounded_at w64 1 4294967295 bytes

unfoldable pub acc_at : AccKind → List ℕ → Read Acc
acc_at acc_kind.Count bytes = do
  n ← count_at bytes
  Ok (acc.Count n.0, n.1)
acc_at acc_kind.Sum bytes = do
  s ← sum_at bytes
  Ok (acc.Sum s.0, s.1)
acc_at acc_kind.Avg bytes = do
  s ← sum_at bytes
  n ← count_at s.1
  Ok (acc.Avg s.0 n.0, n.1)
acc_at (acc_kind.Pick kind) bytes = do
  v ← value_at kind bytes
  Ok (acc.Pick v.0, v.1)

unfoldable pub accs_at : List AccKind → List ℕ → Read (List Acc)
accs_at kinds bytes = each_at acc_at kinds [] bytes

-- a key that stood before stops reading at its last byte
unfoldable pub group_at : List kind.Kind → List AccKind → List (List Value) → List ℕ → Read GroupRow
group_at keys kinds seen bytes = do
  key ← row_at keys bytes
  if list_any (row_eq key.0) seen then Err (suc (length key.1)) else (accs_at kinds key.1 >>= λ accs. Ok (record { key = key.0; accs = accs.0 }, accs.1))

abbrev pub group_after : List kind.Kind → List AccKind → List GroupRow → List ℕ → Read GroupRow
group_after keys kinds before bytes = group_at keys kinds (keys_of before) bytes

-- a position that falls or isn't below the left length stops reading at its last byte
unfoldable pub tagged_at : ℕ → List kind.Kind → List TaggedRow → List ℕ → Read TaggedRow
tagged_at left kinds before bytes = do
  n ← number_at w64 bytes
  if nat_lt n.0 (last_left before) || nat_le left n.0 then Err (suc (length n.1)) else (row_at kinds n.1 >>= λ row. Ok (record { left = n.0; row = row.0 }, row.1))

unfoldable pub rows_at : List kind.Kind → List ℕ → Read (List (List Value))
rows_at kinds bytes = do
  n ← number_at w64 bytes
  items_at (λ before. row_at kinds) n.0 [] n.1

unfoldable pub groups_at : List kind.Kind → List AccKind → List ℕ → Read (List GroupRow)
groups_at keys kinds bytes = do
  n ← number_at w64 bytes
  items_at (group_after keys kinds) n.0 [] n.1

unfoldable pub tagged_rows_at : List kind.Kind → List ℕ → Read (ℕ × List TaggedRow)
tagged_rows_at kinds bytes = do
  n ← number_at w64 bytes
  left ← bounded_at w64 0 4294967295 n.1
  rows ← items_at (tagged_at left.0 kinds) n.0 [] left.1
  Ok ((left.0, rows.0), rows.1)

unfoldable pub kept_at : Shape → List ℕ → Result Kept ℕ
kept_at (shape.Rows kinds) bytes = do
  rest ← literal_at (opening 0) bytes
  rows ← rows_at kinds rest
  ended (kept.Rows rows.0, rows.1)
kept_at (shape.Groups keys kinds) bytes = do
  rest ← literal_at (opening 1) bytes
  groups ← groups_at keys kinds rest
  ended (kept.Groups groups.0, groups.1)
kept_at (shape.Tagged kinds) bytes = do
  rest ← literal_at (opening 2) bytes
  rows ← tagged_rows_at kinds rest
  ended (kept.Tagged rows.0.0 rows.0.1, rows.1)
