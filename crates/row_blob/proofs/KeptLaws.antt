-- A file that is read holds the spelling of what is read, and a spelling is read as what it spells.
use Rattle.std.proofs.Common.{◌≡◌, ℕ, suc, ◌^◌, ◌<◌, ◌≤◌, Bool, true, false, cond, eqb, List, [], ◌∷◌, ◌++◌, length, Result, Ok, Err, refl, sym, ap, subst, ◌∙◌, append_assoc, arith}
use Rattle.std.specs.Prelude.{IfOk, MatchResult}
use Rattle.std.specs.Int.{w64, to_be_bytes}
use Rattle.std.specs.List.{flat_map}
use Rattle.std.proofs.lemmas.Bool.{eqb-true, eq-eqb}
use Rattle.std.proofs.lemmas.List.{append-nil}
use Rattle.rows_core.specs.declared.kind.Kind as kind
use Rattle.row_blob.specs.declared.refusal.BlobRefusal.{BlobRefusal}
use Rattle.row_blob.specs.declared.refusal.BlobRefusal.TheVariants as refusal
use Rattle.row_blob.specs.declared.kept.TaggedRow.{TaggedRow}
use Rattle.row_blob.specs.declared.kept.Kept.{Kept}
use Rattle.row_blob.specs.declared.kept.Kept.TheVariants as kept
use Rattle.row_blob.specs.declared.shape.AccKind.{AccKind}
use Rattle.row_blob.specs.declared.shape.Shape.{Shape}
use Rattle.row_blob.specs.declared.shape.Shape.TheVariants as shape
use Rattle.row_blob.specs.Spelling.{row_spelling, group_spelling, tagged_spelling, opening, kept_spelling}
use Rattle.byte_formats.specs.Reading.{◌>>=◌, Read, literal_at, number_at, bounded_at, ended}
use Rattle.row_blob.specs.Reading.{Reads, items_at, row_at, rows_at, group_after, groups_at, tagged_at, tagged_rows_at, kept_at}
use Rattle.row_blob.specs.Kept.{AreInOrder, IsRow, IsNextGroup, IsNextTagged, IsKept}
use Rattle.byte_formats.proofs.Readers.{IsBytes, bind_ok, ok_is, done, HasFront, IsReader}
use Rattle.row_blob.proofs.Readers.{items_reader}
use Rattle.byte_formats.proofs.Fields.{wide64, number_reader, bounded_reader}
use Rattle.byte_formats.proofs.Exact.{bytes_behind}
use Rattle.row_blob.proofs.RowLaws.{row_reader}
use Rattle.row_blob.proofs.SumLaws.{sum_reader}
use Rattle.row_blob.proofs.GroupLaws.{group_reader, tagged_reader}

-- ---- fixed bytes

step_ok : {A : Type 0} (b : Bool) (r : Result A ℕ) (d : ℕ) (y : A) → cond b r (Err d) ≡ Ok y → (b ≡ true) × (r ≡ Ok y)
step_ok true r d y e = (refl, e)
step_ok false r d y e = absurd cc

pub literal_takes : (cs bytes rest : List ℕ) → literal_at cs bytes ≡ Ok rest → bytes ≡ cs ++ rest
literal_takes [] bytes rest e = ok_is bytes rest e
literal_takes (c ∷ cs) [] rest e = absurd cc
literal_takes (c ∷ cs) (b ∷ bs) rest e =
    let s = step_ok (eqb b c) (literal_at cs bs) (suc (length bs)) rest e in
    ap (λ (x : ℕ). x ∷ bs) (eqb-true b c s.0) ∙ ap (λ (l : List ℕ). c ∷ l) (literal_takes cs bs rest s.1)

literal_again : (cs rest : List ℕ) → literal_at cs (cs ++ rest) ≡ Ok rest
literal_again [] rest = refl
literal_again (c ∷ cs) rest =
    ap (λ (b : Bool). cond b (literal_at cs (cs ++ rest)) (Err (suc (length (cs ++ rest))))) (eq-eqb c c refl) ∙ literal_again cs rest

-- ---- items behind their count

module _ {A : Type 0} (read : List A → List ℕ → Read A) (spell : A → List ℕ) (P : List A → A → Type 0) (law : (before : List A) → IsReader (read before) spell (P before)) where
  abbrev counted_spelling : List A → List ℕ
  counted_spelling xs = to_be_bytes w64 (length xs) ++ flat_map spell xs

  abbrev AreCounted : List A → Type 0
  AreCounted xs = (length xs < 2 ^ 64) × AreInOrder P [] xs

  abbrev counted_at : List ℕ → Read (List A)
  counted_at bytes = number_at w64 bytes >>= λ n. items_at read n.0 [] n.1

  counted_takes : (bytes : List ℕ) (x : List A × List ℕ) → IsBytes bytes → counted_at bytes ≡ Ok x → HasFront counted_spelling AreCounted bytes x
  counted_takes bytes x fits e =
      let a = bind_ok (number_at w64 bytes) (λ n. items_at read n.0 [] n.1) x e in
      let s = (number_reader w64 (2 ^ 64) wide64).takes bytes a.0 fits a.1 in
      let t = (items_reader read spell P law a.0.0).takes a.0.1 x s.rest a.2 in
      record {
        parts = s.parts ∙ ap (λ (l : List ℕ). to_be_bytes w64 a.0.0 ++ l) t.parts ∙ sym (append_assoc (to_be_bytes w64 a.0.0) (flat_map spell x.0) x.1)
            ∙ ap (λ (n : ℕ). (to_be_bytes w64 n ++ flat_map spell x.0) ++ x.1) (sym t.fits.0);
        rest = t.rest;
        fits = (omega (arith, t.fits.0, s.fits), t.fits.1);
      }

  counted_again : (xs : List A) (rest : List ℕ) → AreCounted xs → counted_at (counted_spelling xs ++ rest) ≡ Ok (xs, rest)
  counted_again xs rest fits =
      let behind = flat_map spell xs ++ rest in
      ap counted_at (append_assoc (to_be_bytes w64 (length xs)) (flat_map spell xs) rest)
      ∙ ap (λ r. r >>= λ n. items_at read n.0 [] n.1) ((number_reader w64 (2 ^ 64) wide64).again (length xs) behind fits.0)
      ∙ (items_reader read spell P law (length xs)).again xs rest (refl, fits.1)

  pub counted_reader : IsReader (λ bytes. number_at w64 bytes >>= λ n. items_at read n.0 [] n.1) (λ xs. to_be_bytes w64 (length xs) ++ flat_map spell xs) (λ xs. (length xs < 2 ^ 64) × AreInOrder P [] xs)
  counted_reader = record { takes = counted_takes; again = counted_again }

rows_reader : (kinds : List kind.Kind) → IsReader (rows_at kinds) (λ rows. to_be_bytes w64 (length rows) ++ flat_map row_spelling rows) (λ rows. (length rows < 2 ^ 64) × AreInOrder (λ before. IsRow kinds) [] rows)
unfolding rows_at
rows_reader kinds = counted_reader (λ before. row_at kinds) row_spelling (λ before. IsRow kinds) (λ before. row_reader kinds)

groups_reader : (keys : List kind.Kind) (kinds : List AccKind)
    → IsReader (groups_at keys kinds) (λ groups. to_be_bytes w64 (length groups) ++ flat_map group_spelling groups) (λ groups. (length groups < 2 ^ 64) × AreInOrder (IsNextGroup keys kinds) [] groups)
unfolding groups_at
groups_reader keys kinds = counted_reader (group_after keys kinds) group_spelling (IsNextGroup keys kinds) (group_reader sum_reader keys kinds)

-- ---- rows of a join behind their count and the left length

abbrev joined_spelling : ℕ × List TaggedRow → List ℕ
joined_spelling x = (to_be_bytes w64 (length x.1) ++ to_be_bytes w64 x.0) ++ flat_map tagged_spelling x.1

abbrev AreJoined : List kind.Kind → ℕ × List TaggedRow → Type 0
AreJoined kinds x = (length x.1 < 2 ^ 64) × (x.0 ≤ 4294967295) × AreInOrder (IsNextTagged x.0 kinds) [] x.1

joined_takes : (kinds : List kind.Kind) (bytes : List ℕ) (x : (ℕ × List TaggedRow) × List ℕ) → IsBytes bytes → tagged_rows_at kinds bytes ≡ Ok x → HasFront joined_spelling (AreJoined kinds) bytes x
unfolding tagged_rows_at
joined_takes kinds bytes x fits e =
    let a = bind_ok (number_at w64 bytes) (λ n. bounded_at w64 0 4294967295 n.1 >>= λ left. items_at (tagged_at left.0 kinds) n.0 [] left.1 >>= λ rows. Ok ((left.0, rows.0), rows.1)) x e in
    let b = bind_ok (bounded_at w64 0 4294967295 a.0.1) (λ left. items_at (tagged_at left.0 kinds) a.0.0 [] left.1 >>= λ rows. Ok ((left.0, rows.0), rows.1)) x a.2 in
    let c = bind_ok (items_at (tagged_at b.0.0 kinds) a.0.0 [] b.0.1) (λ rows. Ok ((b.0.0, rows.0), rows.1)) x b.2 in
    let s = (number_reader w64 (2 ^ 64) wide64).takes bytes a.0 fits a.1 in
    let t = (bounded_reader w64 (2 ^ 64) wide64 0 4294967295 (omega arith)).takes a.0.1 b.0 s.rest b.1 in
    let u = (items_reader (tagged_at b.0.0 kinds) tagged_spelling (IsNextTagged b.0.0 kinds) (tagged_reader b.0.0 t.fits.1 kinds) a.0.0).takes b.0.1 c.0 t.rest c.1 in
    let count = to_be_bytes w64 a.0.0 in
    let left = to_be_bytes w64 b.0.0 in
    let rows = flat_map tagged_spelling c.0.0 in
    let made : (ℕ × List TaggedRow) × List ℕ = ((b.0.0, c.0.0), c.0.1) in
    subst (λ y. HasFront joined_spelling (AreJoined kinds) bytes y) (ok_is made x c.2)
    (record {
      parts = s.parts ∙ ap (λ (l : List ℕ). count ++ l) (t.parts ∙ ap (λ (l : List ℕ). left ++ l) u.parts) ∙ sym (append_assoc count left (rows ++ c.0.1)) ∙ sym (append_assoc (count ++ left) rows c.0.1)
          ∙ ap (λ (n : ℕ). ((to_be_bytes w64 n ++ left) ++ rows) ++ c.0.1) (sym u.fits.0);
      rest = u.rest;
      fits = (omega (arith, u.fits.0, s.fits), t.fits.1, u.fits.1);
    })

joined_again : (kinds : List kind.Kind) (left : ℕ) (rows : List TaggedRow) (rest : List ℕ) → AreJoined kinds (left, rows) → tagged_rows_at kinds (joined_spelling (left, rows) ++ rest) ≡ Ok ((left, rows), rest)
unfolding tagged_rows_at
joined_again kinds left rows rest fits =
    let last = flat_map tagged_spelling rows ++ rest in
    let behind = to_be_bytes w64 left ++ last in
    let regrouped : joined_spelling (left, rows) ++ rest ≡ to_be_bytes w64 (length rows) ++ behind =
    append_assoc (to_be_bytes w64 (length rows) ++ to_be_bytes w64 left) (flat_map tagged_spelling rows) rest ∙ append_assoc (to_be_bytes w64 (length rows)) (to_be_bytes w64 left) last in
    ap (tagged_rows_at kinds) regrouped
    ∙ ap (λ r. r >>= λ n. bounded_at w64 0 4294967295 n.1 >>= λ l. items_at (tagged_at l.0 kinds) n.0 [] l.1 >>= λ rs. Ok ((l.0, rs.0), rs.1)) ((number_reader w64 (2 ^ 64) wide64).again (length rows) behind fits.0)
    ∙ ap (λ r. r >>= λ l. items_at (tagged_at l.0 kinds) (length rows) [] l.1 >>= λ rs. Ok ((l.0, rs.0), rs.1)) ((bounded_reader w64 (2 ^ 64) wide64 0 4294967295 (omega arith)).again left last (omega arith, fits.1))
    ∙ ap (λ r. r >>= λ rs. Ok ((left, rs.0), rs.1)) ((items_reader (tagged_at left kinds) tagged_spelling (IsNextTagged left kinds) (tagged_reader left fits.1 kinds) (length rows)).again rows rest (refl, fits.2))

-- ---- the file

abbrev wrapped : {X : Type 0} (make : X → Kept) → ℕ → (List ℕ → Read X) → List ℕ → Result Kept ℕ
wrapped make form read bytes = literal_at (opening form) bytes >>= λ rest. read rest >>= λ x. ended (make x.0, x.1)

ended_ok : {X : Type 0} (make : X → Kept) (x : X) (rest : List ℕ) (k : Kept) → ended (make x, rest) ≡ Ok k → (rest ≡ []) × (make x ≡ k)
ended_ok make x [] k e = (refl, cc)
ended_ok make x (b ∷ bs) k e = absurd cc

wrapped_takes : {X : Type 0} (make : X → Kept) (form : ℕ) (read : List ℕ → Read X) (spell : X → List ℕ) (P : X → Type 0) → ((bytes : List ℕ) (x : X × List ℕ) → IsBytes bytes → read bytes ≡ Ok x → HasFront spell P bytes x)
    → (bytes : List ℕ) (k : Kept) → IsBytes bytes → wrapped make form read bytes ≡ Ok k → (x : X) × (make x ≡ k) × P x × (bytes ≡ opening form ++ spell x)
wrapped_takes make form read spell P law bytes k fits e =
    let a = bind_ok (literal_at (opening form) bytes) (λ rest. read rest >>= λ x. ended (make x.0, x.1)) k e in
    let b = bind_ok (read a.0) (λ x. ended (make x.0, x.1)) k a.2 in
    let s = literal_takes (opening form) bytes a.0 a.1 in
    let t = law a.0 b.0 (bytes_behind (opening form) a.0 (subst IsBytes s fits)) b.1 in
    let f = ended_ok make b.0.0 b.0.1 k b.2 in
    (b.0.0, f.1, t.fits, s ∙ ap (λ (l : List ℕ). opening form ++ l) (t.parts ∙ ap (λ (l : List ℕ). spell b.0.0 ++ l) f.0 ∙ append-nil (spell b.0.0)))

wrapped_again : {X : Type 0} (make : X → Kept) (form : ℕ) (read : List ℕ → Read X) (spell : X → List ℕ) (x : X) → read (spell x ++ []) ≡ Ok (x, []) → wrapped make form read (opening form ++ spell x) ≡ Ok (make x)
wrapped_again make form read spell x again =
    ap (λ r. r >>= λ rest. read rest >>= λ y. ended (make y.0, y.1)) (literal_again (opening form) (spell x))
    ∙ ap (λ (l : List ℕ). read l >>= λ y. ended (make y.0, y.1)) (sym (append-nil (spell x)))
    ∙ ap (λ r. r >>= λ y. ended (make y.0, y.1)) again

abbrev joined : ℕ × List TaggedRow → Kept
joined x = kept.Tagged x.0 x.1

pub kept_takes : (shape : Shape) (bytes : List ℕ) (k : Kept) → IsBytes bytes → kept_at shape bytes ≡ Ok k → IsKept shape k × (bytes ≡ kept_spelling k)
unfolding kept_at
kept_takes (shape.Rows kinds) bytes k fits e =
    let t = wrapped_takes kept.Rows 0 (rows_at kinds) _ _ (rows_reader kinds).takes bytes k fits e in
    subst (λ (y : Kept). IsKept (shape.Rows kinds) y × (bytes ≡ kept_spelling y)) t.1 (t.2, t.3)
kept_takes (shape.Groups keys kinds) bytes k fits e =
    let t = wrapped_takes kept.Groups 1 (groups_at keys kinds) _ _ (groups_reader keys kinds).takes bytes k fits e in
    subst (λ (y : Kept). IsKept (shape.Groups keys kinds) y × (bytes ≡ kept_spelling y)) t.1 (t.2, t.3)
kept_takes (shape.Tagged kinds) bytes k fits e =
    let t = wrapped_takes joined 2 (tagged_rows_at kinds) joined_spelling (AreJoined kinds) (joined_takes kinds) bytes k fits e in
    subst (λ (y : Kept). IsKept (shape.Tagged kinds) y × (bytes ≡ kept_spelling y)) t.1 (t.2, t.3)

pub kept_again : (shape : Shape) (k : Kept) → IsKept shape k → kept_at shape (kept_spelling k) ≡ Ok k
unfolding kept_at
kept_again (shape.Rows kinds) (kept.Rows rows) fits =
    wrapped_again kept.Rows 0 (rows_at kinds) (λ rows. to_be_bytes w64 (length rows) ++ flat_map row_spelling rows) rows ((rows_reader kinds).again rows [] fits)
kept_again (shape.Groups keys kinds) (kept.Groups groups) fits =
    wrapped_again kept.Groups 1 (groups_at keys kinds) (λ groups. to_be_bytes w64 (length groups) ++ flat_map group_spelling groups) groups ((groups_reader keys kinds).again groups [] fits)
kept_again (shape.Tagged kinds) (kept.Tagged left rows) fits =
    wrapped_again joined 2 (tagged_rows_at kinds) joined_spelling (left, rows) (joined_again kinds left rows [] fits)
kept_again _ _ fits = absurd fits

-- ---- what a call returned

pub is_found : (shape : Shape) (bytes : List ℕ) (r : Result Kept BlobRefusal) → IsBytes bytes → Reads r (kept_at shape bytes) (length bytes) → IfOk r (λ k. IsKept shape k × (bytes ≡ kept_spelling k))
is_found shape bytes (Ok k) fits read = kept_takes shape bytes k fits read
is_found shape bytes (Err e) fits read = tt

only_read : (r : Result Kept BlobRefusal) (k : Kept) (len : ℕ) → Reads r (done k) len → MatchResult r (λ found. found ≡ k) (λ e. e ≡ refusal.Memory)
only_read (Ok y) k len read = sym (ok_is k y read)
only_read (Err refusal.Memory) k len read = refl
only_read (Err (refusal.NotBlob at)) k len read = absurd (let e = read.1 in cc)

pub is_read : (shape : Shape) (bytes : List ℕ) (r : Result Kept BlobRefusal) (k : Kept) → IsKept shape k → bytes ≡ kept_spelling k → Reads r (kept_at shape bytes) (length bytes)
    → MatchResult r (λ found. found ≡ k) (λ e. e ≡ refusal.Memory)
is_read shape bytes r k fits e read =
    only_read r k (length bytes) (subst (λ f. Reads r f (length bytes)) (ap (kept_at shape) e ∙ kept_again shape k fits) read)

pub same_kept : (shape : Shape) (a b : Kept) → IsKept shape a → IsKept shape b → kept_spelling a ≡ kept_spelling b → a ≡ b
same_kept shape a b p q e = ok_is a b (sym (kept_again shape a p) ∙ ap (kept_at shape) e ∙ kept_again shape b q)
