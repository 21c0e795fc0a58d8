-- What a call that wants all of the bytes owes.
use Rattle.std.proofs.Common.{◌≡◌, ℕ, ◌+◌, ◌-◌, ◌<◌, inl, inr, List, [], ◌∷◌, ◌++◌, length, take, drop, Ok, Err, refl, sym, ap, subst, ◌∙◌, append_assoc, arith}
use Rattle.std.proofs.lemmas.Bool.{cases_lt}
use Rattle.std.proofs.lemmas.List.{append-nil, length-append, take-append-drop, take_at, take-take}
use Rattle.byte_formats.specs.Reading.{◌>>=◌, ended}
use Rattle.byte_formats.specs.Format.{Format, StopsAt, all_of}
use Rattle.byte_formats.proofs.Readers.{IsBytes, bind_ok, ok_is}
use Rattle.byte_formats.proofs.Exact.{Takes, Stops, Exact, one_value}
use Rattle.byte_formats.proofs.Stopping.{bind_err}

ended_ok : {A : Type 0} (a b : A) (rest : List ℕ) → ended (a, rest) ≡ Ok b → (a ≡ b) × (rest ≡ [])
ended_ok a b [] e = (ok_is a b e, refl)
ended_ok a b (c ∷ rest) e = absurd cc

module _ {A : Type 0} (format : Format A) (exact : Exact format) where
  pub is_found : (bytes : List ℕ) (a : A) → IsBytes bytes → all_of format bytes ≡ Ok a → format.Fits a × (bytes ≡ format.spell a)
  is_found bytes a wide e =
      let x = bind_ok (format.read bytes) (λ x. ended x) a e in
      let t = exact.takes bytes x.0 wide x.1 in
      let end = ended_ok x.0.0 a x.0.1 x.2 in
      (subst format.Fits end.0 t.fits, t.parts ∙ ap (λ (l : List ℕ). format.spell x.0.0 ++ l) end.1 ∙ append-nil (format.spell x.0.0) ∙ ap format.spell end.0)

  pub is_read : (bytes : List ℕ) (a : A) → format.Fits a → bytes ≡ format.spell a → all_of format bytes ≡ Ok a
  is_read bytes a fits e = ap (all_of format) (e ∙ sym (append-nil (format.spell a))) ∙ ap (λ r. r >>= λ x. ended x) (exact.again a [] fits)

  -- bytes behind a whole value
  too_many : (bytes : List ℕ) (a : A) (rest : List ℕ) (left : ℕ) → Takes format bytes (a, rest) → ended (a, rest) ≡ Err left → Stops format bytes left
  too_many bytes a [] left t e = absurd cc
  too_many bytes a (c ∷ cs) left t e = record {
    front = format.spell a;
    back = c ∷ cs;
    parts = t.parts;
    size = cc;
    goes = exact.fronts a (format.spell a) [] t.fits (sym (append-nil (format.spell a)));
    dead = λ b bs back begins. exact.past a b [] t.fits begins;
  }

  pub stops_whole : (bytes : List ℕ) (left : ℕ) → IsBytes bytes → all_of format bytes ≡ Err left → Stops format bytes left
  stops_whole bytes left wide e = elim (bind_err (format.read bytes) (λ x. ended x) left e) [
    | inl h ↦ exact.stops bytes left wide h
    | inr h ↦ too_many bytes h.0.0 h.0.1 left (exact.takes bytes h.0 wide h.1) h.2
  ]

  dead_at : (front back : List ℕ) → ((b : ℕ) (bs : List ℕ) → back ≡ b ∷ bs → format.Begins (front ++ b ∷ []) → ⊥) → length front < length (front ++ back) → format.Begins (take (length front + 1) (front ++ back)) → ⊥
  dead_at front [] dead lt begins = (let l = length-append front [] in omega arith)
  dead_at front (b ∷ bs) dead lt begins =
      let x = front ++ b ∷ [] in
      let len : length x ≡ length front + 1 = length-append front (b ∷ []) in
      dead b bs refl (subst format.Begins (ap (take (length front + 1)) (sym (append_assoc front (b ∷ []) bs)) ∙ take_at x bs (length front + 1) len) begins)

  place_of : (bytes : List ℕ) (left : ℕ) → Stops format bytes left → StopsAt format bytes (length bytes - left)
  place_of bytes left s =
      let all : length bytes ≡ length s.front + length s.back = ap length s.parts ∙ length-append s.front s.back in
      let at : length s.front ≡ length bytes - left = let size = s.size in omega arith in
      let front : take (length s.front) bytes ≡ s.front = ap (take (length s.front)) s.parts ∙ take_at s.front s.back (length s.front) refl in
      let there : StopsAt format bytes (length s.front) = (omega arith, subst format.Begins (sym front) s.goes, λ lt begins. dead_at s.front s.back s.dead (subst (λ (l : List ℕ). length s.front < length l) s.parts lt) (subst (λ (l : List ℕ). format.Begins (take (length s.front + 1) l)) s.parts begins)) in
      subst (λ (n : ℕ). StopsAt format bytes n) at there

  pub is_place : (bytes : List ℕ) (left : ℕ) → IsBytes bytes → all_of format bytes ≡ Err left → StopsAt format bytes (length bytes - left)
  is_place bytes left wide e = place_of bytes left (stops_whole bytes left wide e)

  pub one_spelling : (a b : A) → format.Fits a → format.Fits b → format.spell a ≡ format.spell b → a ≡ b
  one_spelling a b p q e = (one_value format exact a b [] [] p q (ap (λ (l : List ℕ). l ++ []) e)).value

  not_before : (bytes : List ℕ) (a b : ℕ) → StopsAt format bytes a → StopsAt format bytes b → a < b → ⊥
  not_before bytes a b p q lt =
      let cut : take b bytes ≡ take (a + 1) bytes ++ drop (a + 1) (take b bytes) = sym (take-append-drop (a + 1) (take b bytes)) ∙ ap (λ (l : List ℕ). l ++ drop (a + 1) (take b bytes)) (take-take (a + 1) b bytes (omega arith)) in
      p.2 (let le = q.0 in omega arith) (exact.shorter (take (a + 1) bytes) (drop (a + 1) (take b bytes)) (subst format.Begins cut q.1))

  pub one_place : (bytes : List ℕ) (a b : ℕ) → StopsAt format bytes a → StopsAt format bytes b → a ≡ b
  one_place bytes a b p q = elim (cases_lt a b) [
    | inl lt ↦ absurd (not_before bytes a b p q lt)
    | inr le ↦ elim (cases_lt b a) [
      | inl lt ↦ absurd (not_before bytes b a q p lt)
      | inr le2 ↦ omega arith
    ]
  ]
