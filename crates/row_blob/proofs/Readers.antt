-- Readers of one item for each kind, and of a count of items.
use Rattle.std.proofs.Common.{◌≡◌, ℕ, zero, suc, List, [], ◌∷◌, ◌++◌, length, Ok, refl, sym, ap, subst, ◌∙◌, append_assoc}
use Rattle.std.specs.List.{flat_map}
use Rattle.std.proofs.lemmas.List.{append-nil}
use Rattle.byte_formats.specs.Reading.{◌>>=◌, Read}
use Rattle.row_blob.specs.Reading.{each_at, items_at}
use Rattle.row_blob.specs.Kept.{AreEach, AreInOrder}
use Rattle.byte_formats.proofs.Readers.{IsBytes, bind_ok, done, ok_is, HasFront, IsReader}

-- ---- one item for each kind

pub record TakesMore {A : Type 0} (spell : A → List ℕ) (Q : List A → Type 0) (front : List A) (bytes : List ℕ) (x : List A × List ℕ) : Type 0 where
  pub more : List A
  pub items : x.0 ≡ front ++ more
  pub parts : bytes ≡ flat_map spell more ++ x.1
  pub rest : IsBytes x.1
  pub fits : Q more

nothing_more : {A : Type 0} (spell : A → List ℕ) (Q : List A → Type 0) (front : List A) (bytes : List ℕ) (x : List A × List ℕ) → IsBytes bytes → Q [] → done (front, bytes) ≡ Ok x
    → TakesMore spell Q front bytes x
nothing_more spell Q front bytes x h q e =
    subst (λ y. TakesMore spell Q front bytes y) (ok_is (front, bytes) x e)
    (record { more = []; items = sym (append-nil front); parts = refl; rest = h; fits = q })

one_more : {A : Type 0} (spell : A → List ℕ) (P : A → Type 0) (Q R : List A → Type 0) (front : List A) (bytes : List ℕ) (a : A × List ℕ) (x : List A × List ℕ) → HasFront spell P bytes a
    → (t : TakesMore spell Q (front ++ a.0 ∷ []) a.1 x) → R (a.0 ∷ t.more) → TakesMore spell R front bytes x
one_more spell P Q R front bytes a x first t r = record {
  more = a.0 ∷ t.more;
  items = t.items ∙ append_assoc front (a.0 ∷ []) t.more;
  parts = first.parts ∙ ap (λ (l : List ℕ). spell a.0 ++ l) t.parts ∙ sym (append_assoc (spell a.0) (flat_map spell t.more) x.1);
  rest = t.rest;
  fits = r;
}

module _ {K A : Type 0} (read : K → List ℕ → Read A) (spell : A → List ℕ) (P : K → A → Type 0) (law : (k : K) → IsReader (read k) spell (P k)) where
  each_takes : (ks : List K) (front : List A) (bytes : List ℕ) (x : List A × List ℕ) → IsBytes bytes → each_at read ks front bytes ≡ Ok x → TakesMore spell (AreEach P ks) front bytes x
  each_takes [] front bytes x h e = nothing_more spell (AreEach P []) front bytes x h tt e
  each_takes (k ∷ ks) front bytes x h e =
      let a = bind_ok (read k bytes) (λ y. each_at read ks (front ++ y.0 ∷ []) y.1) x e in
      let first = (law k).takes bytes a.0 h a.1 in
      let t = each_takes ks (front ++ a.0.0 ∷ []) a.0.1 x first.rest a.2 in
      one_more spell (P k) (AreEach P ks) (AreEach P (k ∷ ks)) front bytes a.0 x first t (first.fits, t.fits)

  each_again : (ks : List K) (front xs : List A) (rest : List ℕ) → AreEach P ks xs → each_at read ks front (flat_map spell xs ++ rest) ≡ Ok (front ++ xs, rest)
  each_again [] front [] rest fits = ap (λ (l : List A). Ok (l, rest)) (sym (append-nil front))
  each_again [] front (x ∷ xs) rest fits = absurd fits
  each_again (k ∷ ks) front [] rest fits = absurd fits
  each_again (k ∷ ks) front (x ∷ xs) rest fits =
      let regrouped : flat_map spell (x ∷ xs) ++ rest ≡ spell x ++ (flat_map spell xs ++ rest) = append_assoc (spell x) (flat_map spell xs) rest in
      let first = (law k).again x (flat_map spell xs ++ rest) fits.0 in
      ap (each_at read (k ∷ ks) front) regrouped
      ∙ ap (λ r. r >>= λ y. each_at read ks (front ++ y.0 ∷ []) y.1) first
      ∙ each_again ks (front ++ x ∷ []) xs rest fits.1
      ∙ ap (λ (l : List A). Ok (l, rest)) (append_assoc front (x ∷ []) xs)

  pub each_reader : (ks : List K) → IsReader (each_at read ks []) (flat_map spell) (AreEach P ks)
  each_reader ks = record {
    takes = λ bytes x h e.
        let t = each_takes ks [] bytes x h e in
        record { parts = t.parts ∙ ap (λ (l : List A). flat_map spell l ++ x.1) (sym t.items); rest = t.rest; fits = subst (AreEach P ks) (sym t.items) t.fits };
    again = λ xs rest fits. each_again ks [] xs rest fits;
  }

-- ---- a count of items

module _ {A : Type 0} (read : List A → List ℕ → Read A) (spell : A → List ℕ) (P : List A → A → Type 0) (law : (before : List A) → IsReader (read before) spell (P before)) where
  items_take : (n : ℕ) (front : List A) (bytes : List ℕ) (x : List A × List ℕ) → IsBytes bytes → items_at read n front bytes ≡ Ok x → TakesMore spell (λ xs. (length xs ≡ n) × AreInOrder P front xs) front bytes x
  items_take zero front bytes x h e = nothing_more spell (λ xs. (length xs ≡ 0) × AreInOrder P front xs) front bytes x h (refl, tt) e
  items_take (suc n) front bytes x h e =
      let a = bind_ok (read front bytes) (λ y. items_at read n (front ++ y.0 ∷ []) y.1) x e in
      let first = (law front).takes bytes a.0 h a.1 in
      let t = items_take n (front ++ a.0.0 ∷ []) a.0.1 x first.rest a.2 in
      one_more spell (P front) (λ xs. (length xs ≡ n) × AreInOrder P (front ++ a.0.0 ∷ []) xs) (λ xs. (length xs ≡ suc n) × AreInOrder P front xs) front bytes a.0 x first t (ap suc t.fits.0, (first.fits, t.fits.1))

  items_again : (front xs : List A) (rest : List ℕ) → AreInOrder P front xs → items_at read (length xs) front (flat_map spell xs ++ rest) ≡ Ok (front ++ xs, rest)
  items_again front [] rest fits = ap (λ (l : List A). Ok (l, rest)) (sym (append-nil front))
  items_again front (x ∷ xs) rest fits =
      let regrouped : flat_map spell (x ∷ xs) ++ rest ≡ spell x ++ (flat_map spell xs ++ rest) = append_assoc (spell x) (flat_map spell xs) rest in
      let first = (law front).again x (flat_map spell xs ++ rest) fits.0 in
      ap (items_at read (suc (length xs)) front) regrouped
      ∙ ap (λ r. r >>= λ y. items_at read (length xs) (front ++ y.0 ∷ []) y.1) first
      ∙ items_again (front ++ x ∷ []) xs rest fits.1
      ∙ ap (λ (l : List A). Ok (l, rest)) (append_assoc front (x ∷ []) xs)

  pub items_reader : (n : ℕ) → IsReader (items_at read n []) (flat_map spell) (λ xs. (length xs ≡ n) × AreInOrder P [] xs)
  items_reader n = record {
    takes = λ bytes x h e.
        let t = items_take n [] bytes x h e in
        record { parts = t.parts ∙ ap (λ (l : List A). flat_map spell l ++ x.1) (sym t.items); rest = t.rest; fits = subst (λ (l : List A). (length l ≡ n) × AreInOrder P [] l) (sym t.items) t.fits };
    again = λ xs rest fits. subst (λ (m : ℕ). items_at read m [] (flat_map spell xs ++ rest) ≡ Ok (xs, rest)) fits.0 (items_again [] xs rest fits.1);
  }
