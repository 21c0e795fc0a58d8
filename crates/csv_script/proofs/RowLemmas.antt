-- The rows that records are, one more at a time.
use Prim.Native.Nat.{zero, suc}
use Rattle.std.proofs.Common.{◌≡◌, ◌≢◌, ℕ, ◌+◌, ◌<◌, ◌≤◌, Bool, false, cond, nat_eq, List, [], ◌∷◌, ◌++◌, length, map, take, get_or, Option, Some, Result, Ok, Err, length-append, refl, sym, ap, ◌∙◌, subst, inl, inr, arith, append_assoc, append-nil}
use Rattle.std.proofs.Math.Seq.{take-suc}
use Rattle.std.proofs.lemmas.Grind.{flat_map-append}
use Rattle.std.proofs.lemmas.List.{length-take}
use Rattle.std.specs.List.{slice_get}
use Rattle.std.specs.Bool.{IsTrue}
use Rattle.std.specs.Result.{IfOk}
use Rattle.std.proofs.lemmas.Bool.Decides.{nat_tests}
use Rattle.rows_core.specs.Schema.{kinds_of}
use Rattle.rows_core.specs.Value.{kind_of}
use Rattle.rows_core.specs.declared.schema.Column.{Column}
use Rattle.rows_core.specs.declared.value.Value.{Value}
use Rattle.rows_core.specs.declared.value.Value.TheVariants.{Int, Text, Bool as Truth}
use Rattle.row_text.specs.RowSpelling.{more_spelling, row_spelling, value_spelling}
use Rattle.row_text.proofs.Lines.{row_spelling-length}
use Rattle.rows_core.specs.declared.kind.Kind.{Kind}
use Rattle.std.proofs.KnownBytes.{Appends-trans}
use Rattle.std.specs.Io.KnownBytes.{Appends}
use Rattle.csv_script.specs.Blocks.{beginning, blocks_text, most_block_bytes, row_line, IsBlocked, IsStreamRow}
use Rattle.csv_script.specs.Reading.{task_of, AreTaken, IsConverted, IsDone}
use Rattle.csv_script.specs.Cells.{separator, IsCell, IsLongText}
use Rattle.csv_script.specs.Records.{field_of, ArePicked, ArePicks, AreRowsOf, IsFor, IsNoRow, IsPick, IsRowOf}
use Rattle.csv_script.specs.declared.pick.Pick.{Pick}
use Rattle.csv_script.specs.declared.record.RecordRefusal.{RecordRefusal}
use Rattle.csv_script.specs.declared.record.RecordRefusal.TheVariants as refusal

-- a row with one more value
pub row_spelling-more : (row : List Value) (value : Value) → row_spelling (row ++ value ∷ []) ≡ row_spelling row ++ (separator (length row) ++ value_spelling value)
row_spelling-more [] value = append-nil (value_spelling value)
row_spelling-more (first ∷ row) value =
    let behind : separator (length (first ∷ row)) ≡ 44 ∷ [] = ap (λ b. cond b [] (44 ∷ [])) (not_none (length row)) in
    ap (λ m. value_spelling first ++ m) (flat_map-append (λ v. 44 ∷ value_spelling v) row (value ∷ []) ∙ ap (λ m. more_spelling row ++ 44 ∷ m) (append-nil (value_spelling value)))
    ∙ sym (append_assoc (value_spelling first) (more_spelling row) (44 ∷ value_spelling value))
    ∙ ap (λ s. row_spelling (first ∷ row) ++ (s ++ value_spelling value)) (sym behind)
  where
    not_none : (n : ℕ) → nat_eq (suc n) 0 ≡ false
    not_none n = grind (arith, nat_tests)

pub ArePicked-more : (fields : List (List ℕ)) (picks : List Pick) (row : List Value) (pick : Pick) (value : Value) → ArePicked fields picks row → IsCell pick.kind (field_of fields pick) value
    → ArePicked fields (picks ++ pick ∷ []) (row ++ value ∷ [])
ArePicked-more fields [] [] pick value all cell = (cell, tt)
ArePicked-more fields [] (v ∷ row) pick value all cell = absurd all
ArePicked-more fields (p ∷ picks) [] pick value all cell = absurd all
ArePicked-more fields (p ∷ picks) (v ∷ row) pick value all cell = (all.0, ArePicked-more fields picks row pick value all.1 cell)

pub ArePicked-length : (fields : List (List ℕ)) (picks : List Pick) (row : List Value) → ArePicked fields picks row → length row ≡ length picks
ArePicked-length fields [] [] all = refl
ArePicked-length fields [] (v ∷ row) all = absurd all
ArePicked-length fields (p ∷ picks) [] all = absurd all
ArePicked-length fields (p ∷ picks) (v ∷ row) all = ap suc (ArePicked-length fields picks row all.1)

-- one for each column
pub ArePicks-more : (header : List (List ℕ)) (columns : List Column) (picks : List Pick) (column : Column) (pick : Pick) → ArePicks header columns picks → IsPick header column pick
    → ArePicks header (columns ++ column ∷ []) (picks ++ pick ∷ [])
ArePicks-more header [] [] column pick all one = (one, tt)
ArePicks-more header [] (p ∷ picks) column pick all one = absurd all
ArePicks-more header (c ∷ columns) [] column pick all one = absurd all
ArePicks-more header (c ∷ columns) (p ∷ picks) column pick all one = (all.0, ArePicks-more header columns picks column pick all.1 one)

-- an item is the same whatever stands for a missing one
pub get_or_again : {A : Type 0} (xs : List A) (i : ℕ) (d e : A) → i < length xs → get_or xs i d ≡ get_or xs i e
get_or_again [] i d e within = absurd (omega (arith, within))
get_or_again (x ∷ xs) zero d e within = refl
get_or_again (x ∷ xs) (suc i) d e within = get_or_again xs i d e (omega arith)

take_next : {A : Type 0} (xs : List A) (i : ℕ) (x : A) → i < length xs → x ≡ get_or xs i x → take (i + 1) xs ≡ take i xs ++ x ∷ []
take_next xs i x within is =
    let next : i + 1 ≡ suc i = omega arith in
    ap (λ k. take k xs) next ∙ take-suc xs i x within ∙ ap (λ y. take i xs ++ y ∷ []) (sym is)

pub ArePicks-next : (header : List (List ℕ)) (columns : List Column) (i : ℕ) (column : Column) (picks : List Pick) (pick : Pick) → i < length columns → column ≡ get_or columns i column
    → ArePicks header (take i columns) picks → IsPick header column pick → ArePicks header (take (i + 1) columns) (picks ++ pick ∷ [])
ArePicks-next header columns i column picks pick within is all one =
    subst (λ c. ArePicks header c (picks ++ pick ∷ [])) (sym (take_next columns i column within is)) (ArePicks-more header (take i columns) picks column pick all one)

pub ArePicked-next : (fields : List (List ℕ)) (picks : List Pick) (i : ℕ) (pick : Pick) (row : List Value) (value : Value) → i < length picks → pick ≡ get_or picks i pick
    → ArePicked fields (take i picks) row → IsCell pick.kind (field_of fields pick) value → ArePicked fields (take (i + 1) picks) (row ++ value ∷ [])
ArePicked-next fields picks i pick row value within is all cell =
    subst (λ p. ArePicked fields p (row ++ value ∷ [])) (sym (take_next picks i pick within is)) (ArePicked-more fields (take i picks) row pick value all cell)

-- the line with one more value
pub line_next : (fields : List (List ℕ)) (picks : List Pick) (row : List Value) (value : Value) (column : ℕ) (start line parted now : List ℕ) → ArePicked fields (take column picks) row → column ≤ length picks
    → line ≡ start ++ row_spelling row → parted ≡ line ++ separator column → now ≡ parted ++ value_spelling value → now ≡ start ++ row_spelling (row ++ value ∷ [])
line_next fields picks row value column start line parted now all within line_is parted_is now_is =
    let here : length row ≡ column = omega (arith, ArePicked-length fields (take column picks) row all, length-take column picks) in
    now_is ∙ ap (λ p. p ++ value_spelling value) (parted_is ∙ ap (λ l. l ++ separator column) line_is)
    ∙ append_assoc (start ++ row_spelling row) (separator column) (value_spelling value)
    ∙ append_assoc start (row_spelling row) (separator column ++ value_spelling value)
    ∙ ap (λ k. start ++ (row_spelling row ++ (separator k ++ value_spelling value))) (sym here)
    ∙ ap (λ r. start ++ r) (sym (row_spelling-more row value))

-- a row of a stream's columns
pub stream_row : (header fields : List (List ℕ)) (columns : List Column) (picks : List Pick) (row : List Value) → ArePicks header columns picks → ArePicked fields picks row → IsStreamRow (kinds_of columns) row
stream_row header fields [] [] [] picks all = record { kinds_are = refl; loose = tt; short = tt }
stream_row header fields [] [] (v ∷ row) picks all = absurd all
stream_row header fields [] (p ∷ ps) row picks all = absurd picks
stream_row header fields (c ∷ columns) [] row picks all = absurd picks
stream_row header fields (c ∷ columns) (p ∷ ps) [] picks all = absurd all
stream_row header fields (c ∷ columns) (p ∷ ps) (v ∷ row) picks all =
    let more = stream_row header fields columns ps row picks.1 all.1 in
    let here : kind_of v ≡ c.kind = all.0.kind_is ∙ picks.0.kind in
    record { kinds_are = ap (λ k. k ∷ map kind_of row) here ∙ ap (λ ks. c.kind ∷ ks) more.kinds_are; loose = (all.0.loose, more.loose); short = (all.0.short, more.short) }

pub ArePicks-length : (header : List (List ℕ)) (columns : List Column) (picks : List Pick) → ArePicks header columns picks → length picks ≡ length columns
ArePicks-length header [] [] all = refl
ArePicks-length header [] (p ∷ picks) all = absurd all
ArePicks-length header (c ∷ columns) [] all = absurd all
ArePicks-length header (c ∷ columns) (p ∷ picks) all = ap suc (ArePicks-length header columns picks all.1)

-- the value of a column
picked_at : (fields : List (List ℕ)) (picks : List Pick) (row : List Value) (k : ℕ) (pick : Pick) → ArePicked fields picks row → slice_get picks k ≡ Some pick → (value : Value) × IsCell pick.kind (field_of fields pick) value
picked_at fields [] row k pick all at = absurd (cc)
picked_at fields (p ∷ picks) [] k pick all at = absurd all
picked_at fields (p ∷ picks) (v ∷ row) zero pick all at =
    let same : p ≡ pick = cc in
    (v, subst (λ q. IsCell q.kind (field_of fields q) v) same all.0)
picked_at fields (p ∷ picks) (v ∷ row) (suc k) pick all at = picked_at fields picks row k pick all.1 at

long_text : (kind : _) (field : List ℕ) (value : Value) → IsLongText kind field → IsCell kind field value → ⊥
long_text kind field (Text text) is cell = omega (arith, is.2, ap length cell.text, cell.short)
long_text kind field (Int number) is cell = absurd (cc (cell.kind_is, is.0))
long_text kind field (Truth truth) is cell = absurd (cc (cell.kind_is, is.0))

-- a record that is refused is no row
pub no_row : (picks : List Pick) (width : ℕ) (fields : List (List ℕ)) (why : RecordRefusal) → IsFor picks width fields why → why ≢ refusal.Memory → IsNoRow picks width fields
no_row picks width fields refusal.Width is other row of = is of.width_is
no_row picks width fields (refusal.NotOfKind column) is other row of =
    let at = picked_at fields picks row column is.pick of.values is.here in
    is.holds at.0 at.1.kind_is at.1.loose at.1.text
no_row picks width fields (refusal.TooLong column) is other row of =
    let at = picked_at fields picks row column is.pick of.values is.here in
    long_text is.pick.kind (field_of fields is.pick) at.0 is.holds at.1
no_row picks width fields refusal.Memory is other row of = other refl

module _ (skips : Bool) (picks : List Pick) (width : ℕ) where
  -- one more record that is a row
  pub AreRowsOf-row : (records : List (List (List ℕ))) (rows : List (List Value)) (skipped : ℕ) (fields : List (List ℕ)) (row : List Value) → AreRowsOf skips picks width records rows skipped
      → IsRowOf picks width fields row → AreRowsOf skips picks width (records ++ fields ∷ []) (rows ++ row ∷ []) skipped
  AreRowsOf-row [] rows skipped fields row all of = inl (row, [], of, ap (λ r. r ++ row ∷ []) all.0, (refl, all.1))
  AreRowsOf-row (first ∷ records) rows skipped fields row (inl is) of =
      inl (is.0, is.1 ++ row ∷ [], is.2, ap (λ r. r ++ row ∷ []) is.3, AreRowsOf-row records is.1 skipped fields row is.4 of)
  AreRowsOf-row (first ∷ records) rows skipped fields row (inr is) of = inr (is.0, is.1, is.2, is.3, AreRowsOf-row records rows is.2 fields row is.4 of)

  -- one more record that is left out
  pub AreRowsOf-left_out : (records : List (List (List ℕ))) (rows : List (List Value)) (skipped : ℕ) (fields : List (List ℕ)) → AreRowsOf skips picks width records rows skipped
      → IsTrue skips → IsNoRow picks width fields → AreRowsOf skips picks width (records ++ fields ∷ []) rows (skipped + 1)
  AreRowsOf-left_out [] rows skipped fields all asked none = inr (asked, none, 0, ap (λ n. n + 1) all.1, (all.0, refl))
  AreRowsOf-left_out (first ∷ records) rows skipped fields (inl is) asked none = inl (is.0, is.1, is.2, is.3, AreRowsOf-left_out records is.1 skipped fields is.4 asked none)
  AreRowsOf-left_out (first ∷ records) rows skipped fields (inr is) asked none =
      inr (is.0, is.1, is.2 + 1, ap (λ n. n + 1) is.3, AreRowsOf-left_out records rows is.2 fields is.4 asked none)

-- a row's line is short enough for a block
pub line_of_row : (header fields : List (List ℕ)) (columns : List Column) (picks : List Pick) (width : ℕ) (row : List Value) (line : List ℕ) → length columns ≤ 32 → ArePicks header columns picks
    → IsRowOf picks width fields row → line ≡ row_line row → IsStreamRow (kinds_of columns) row × (length line ≤ most_block_bytes)
line_of_row header fields columns picks width row line few are of line_is =
    let is = stream_row header fields columns picks row are of.values in
    let short = row_spelling-length row is.loose is.short (omega (arith, few, ArePicked-length fields picks row of.values, ArePicks-length header columns picks are)) in
    (is, omega (arith, short, ap length line_is, length-append (row_spelling row) (10 ∷ [])))

-- a record whose row was taken
pub AreTaken-row : (skips : Bool) (picks : List Pick) (width : ℕ) (records : List (List (List ℕ))) (rows : List (List Value)) (skipped : ℕ) (fields : List (List ℕ)) (row : List Value)
    (kinds : List Kind) (name : List ℕ) (before now : Option (List ℕ)) (lines : List ℕ) → AreRowsOf skips picks width records rows skipped → IsRowOf picks width fields row
    → IsBlocked kinds name before now lines (rows ++ row ∷ []) → AreTaken skips picks width (records ++ fields ∷ []) (skipped + 0) kinds name before now lines
AreTaken-row skips picks width records rows skipped fields row kinds name before now lines all of blocked =
    let same : skipped ≡ skipped + 0 = omega arith in
    record { rows = rows ++ row ∷ []; rows_are = subst (AreRowsOf skips picks width (records ++ fields ∷ []) (rows ++ row ∷ [])) same (AreRowsOf-row skips picks width records rows skipped fields row all of); blocked = blocked }

-- a record that was left out
pub AreTaken-left_out : (skips : Bool) (picks : List Pick) (width : ℕ) (records : List (List (List ℕ))) (rows : List (List Value)) (skipped count : ℕ) (fields : List (List ℕ)) (why : RecordRefusal)
    (kinds : List Kind) (name : List ℕ) (before now : Option (List ℕ)) (lines : List ℕ) → AreRowsOf skips picks width records rows skipped → IsFor picks width fields why
    → why ≢ refusal.Memory → IsTrue skips → count ≡ 1 → IsBlocked kinds name before now lines rows
    → AreTaken skips picks width (records ++ fields ∷ []) (skipped + count) kinds name before now lines
AreTaken-left_out skips picks width records rows skipped count fields why kinds name before now lines all is other asked one blocked =
    let same : skipped + 1 ≡ skipped + count = omega (arith, one) in
    record {
      rows = rows;
      rows_are = subst (AreRowsOf skips picks width (records ++ fields ∷ []) rows) same (AreRowsOf-left_out skips picks width records rows skipped fields all asked (no_row picks width fields why is other));
      blocked = blocked;
    }

pub if_ok : {T E : Type 0} {Q : T → Type 0} (r : Result T E) → ((x : T) → r ≡ Ok x → Q x) → IfOk r Q
if_ok (Ok x) f = f x refl
if_ok (Err e) f = tt

-- the beginning, and then the blocks of all rows
pub IsConverted-whole : (declares skips : Bool) (name : List ℕ) (columns : List Column) (text : List ℕ) (header : List (List ℕ)) (picks : List Pick) (before begun now : Option (List ℕ)) (skipped : ℕ)
    → ArePicks header columns picks → Appends before begun (beginning declares name columns) → IsDone text header (task_of skips name columns picks (length header) begun) now skipped
    → IsConverted declares skips name columns text before now skipped
IsConverted-whole declares skips name columns text header picks before begun now skipped are wrote done = record {
  header = header;
  records = done.records;
  picks = picks;
  blocks = done.written.blocks;
  are_records = done.are_records;
  are_picks = are;
  rows_are = subst (λ rows. AreRowsOf skips picks (length header) done.records rows skipped) done.written.rows_are done.rows_are;
  all = done.written.all;
  wrote = Appends-trans before begun now (beginning declares name columns) (blocks_text name done.written.blocks) wrote done.written.wrote;
}
