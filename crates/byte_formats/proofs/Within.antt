-- A value behind the length of its spelling.
use Rattle.std.proofs.Common.{◌≡◌, ℕ, suc, ◌+◌, ◌^◌, ◌<◌, ◌≤◌, ◌⊎◌, inl, inr, Bool, true, false, leb, cond, List, [], ◌∷◌, ◌++◌, length, take, drop, Result, Ok, Err, refl, sym, ap, subst, ◌∙◌, append_assoc, arith}
use Rattle.std.specs.Int.{w32, to_be_bytes}
use Rattle.std.proofs.lemmas.Bool.{cases_Bool, leb-true, le-leb, leb-false}
use Rattle.std.proofs.lemmas.List.{append-nil, length-append, length-take, length-drop, take-append-drop, take_at, drop_at, nil_from_length}
use Rattle.byte_formats.proofs.Readers.{IsBytes-take, IsBytes, ok_is}
use Rattle.byte_formats.specs.Reading.{Read}
use Rattle.byte_formats.specs.Format.{Format, u32, ◌▷◌, all_of, settled, exactly, measured}
use Rattle.byte_formats.proofs.Exact.{Takes, Stops, Exact, both_exact}
use Rattle.byte_formats.proofs.Laws.{made_exact, u32_exact}
use Rattle.byte_formats.proofs.Whole.{is_found, is_read, stops_whole}

module _ {A : Type 0} (format : Format A) (exact : Exact format) (n : ℕ) where
  abbrev whole : List ℕ → Result A ℕ
  whole bytes = all_of format (take n bytes)

  record Settled (bytes : List ℕ) (r : Result A ℕ) (x : A × List ℕ) : Type 0 where
    pub whole : r ≡ Ok x.0
    pub long : n ≤ length bytes
    pub rest : drop n bytes ≡ x.1

  settled_ok : (bytes : List ℕ) (r : Result A ℕ) (x : A × List ℕ) → settled n bytes r ≡ Ok x → Settled bytes r x
  settled_ok bytes (Err left) x e = absurd cc
  settled_ok bytes (Ok a) x e =
      let P : Bool → Read A = λ t. cond t (Ok (a, drop n bytes)) (Err 0) in
      elim (cases_Bool (leb n (length bytes))) [
        | inl t ↦ let is = ok_is (a, drop n bytes) x (ap P (sym t) ∙ e) in record { whole = ap (λ (y : A × List ℕ). Ok y.0) is; long = leb-true _ _ t; rest = ap (λ (y : A × List ℕ). y.1) is }
        | inr t ↦ absurd (let clash : P false ≡ Ok x = ap P (sym t) ∙ e in cc)
      ]

  exactly_again : (a : A) (rest : List ℕ) → format.Fits a × (length (format.spell a) ≡ n) → (exactly n format).read (format.spell a ++ rest) ≡ Ok (a, rest)
  exactly_again a rest fits =
      let front : take n (format.spell a ++ rest) ≡ format.spell a = take_at (format.spell a) rest n fits.1 in
      let back : drop n (format.spell a ++ rest) ≡ rest = drop_at (format.spell a) rest n fits.1 in
      let long : n ≤ length (format.spell a ++ rest) = (let l = length-append (format.spell a) rest in let m = fits.1 in omega arith) in
      ap (settled n (format.spell a ++ rest)) (is_read format exact (take n (format.spell a ++ rest)) a fits.0 front)
      ∙ ap (λ (t : Bool). cond t (Ok (a, drop n (format.spell a ++ rest))) (Err 0)) (le-leb n (length (format.spell a ++ rest)) long)
      ∙ ap (λ (l : List ℕ). Ok (a, l)) back

  exactly_takes : (bytes : List ℕ) (x : A × List ℕ) → IsBytes bytes → (exactly n format).read bytes ≡ Ok x → Takes (exactly n format) bytes x
  exactly_takes bytes x wide e =
      let s = settled_ok bytes (whole bytes) x e in
      let f = is_found format exact (take n bytes) x.0 (IsBytes-take n bytes wide) s.whole in
      let long = s.long in
      let len : length (format.spell x.0) ≡ n = ap length (sym f.1) ∙ (let l = length-take n bytes in omega arith) in
      record { fits = (f.0, len); parts = sym (take-append-drop n bytes) ∙ ap (λ (l : List ℕ). l ++ drop n bytes) f.1 ∙ ap (λ (l : List ℕ). format.spell x.0 ++ l) s.rest }

  -- reading stops within the bytes
  dead_within : (bytes front back : List ℕ) → take n bytes ≡ front ++ back → ((b : ℕ) (bs : List ℕ) → back ≡ b ∷ bs → format.Begins (front ++ b ∷ []) → ⊥)
      → (b : ℕ) (bs : List ℕ) → back ++ drop n bytes ≡ b ∷ bs → (length (front ++ b ∷ []) ≤ n) × format.Begins (front ++ b ∷ []) → ⊥
  dead_within bytes front (c ∷ back) parts dead b bs e begins = let head : c ≡ b = cc in dead c back refl (subst (λ (d : ℕ). format.Begins (front ++ d ∷ [])) (sym head) begins.1)
  dead_within bytes front [] parts dead b bs e begins =
      let all : length (take n bytes) ≡ length front = ap length parts ∙ ap length (append-nil front) in
      let more : length (drop n bytes) ≡ suc (length bs) = ap length e in
      let l = length-take n bytes in
      let m = length-drop n bytes in
      let k : length (front ++ b ∷ []) ≡ length front + 1 = length-append front (b ∷ []) in
      let h = begins.0 in
      omega arith

  stops_within : (bytes : List ℕ) (left : ℕ) → Stops format (take n bytes) left → Stops (exactly n format) bytes (left + length (drop n bytes))
  stops_within bytes left s = record {
    front = s.front;
    back = s.back ++ drop n bytes;
    parts = sym (take-append-drop n bytes) ∙ ap (λ (l : List ℕ). l ++ drop n bytes) s.parts ∙ append_assoc s.front s.back (drop n bytes);
    size = length-append s.back (drop n bytes) ∙ ap (λ (m : ℕ). m + length (drop n bytes)) s.size;
    goes = ((let a : length (take n bytes) ≡ length s.front + length s.back = ap length s.parts ∙ length-append s.front s.back in let l = length-take n bytes in omega arith), s.goes);
    dead = dead_within bytes s.front s.back s.parts s.dead;
  }

  -- the bytes end in the place of the next one
  too_short : (bytes : List ℕ) (a : A) (left : ℕ) → IsBytes bytes → whole bytes ≡ Ok a → length bytes < n → 0 ≡ left → Stops (exactly n format) bytes left
  too_short bytes a left wide e short size =
      let f = is_found format exact (take n bytes) a (IsBytes-take n bytes wide) e in
      let none : length (drop n bytes) ≡ 0 = let m = length-drop n bytes in omega arith in
      let all : bytes ≡ format.spell a = sym (take-append-drop n bytes) ∙ ap (λ (l : List ℕ). take n bytes ++ l) (nil_from_length (drop n bytes) none) ∙ append-nil (take n bytes) ∙ f.1 in
      record {
        front = bytes;
        back = [];
        parts = sym (append-nil bytes);
        size = size;
        goes = (omega arith, exact.fronts a bytes [] f.0 (sym all ∙ sym (append-nil bytes)));
        dead = λ b bs back. absurd cc;
      }

  settled_err : (bytes : List ℕ) (r : Result A ℕ) (left : ℕ) → settled n bytes r ≡ Err left
      → ((l : ℕ) × (r ≡ Err l) × (l + length (drop n bytes) ≡ left)) ⊎ ((a : A) × (r ≡ Ok a) × (length bytes < n) × (0 ≡ left))
  settled_err bytes (Err l) left e = inl (l, refl, cc)
  settled_err bytes (Ok a) left e =
      let P : Bool → Read A = λ t. cond t (Ok (a, drop n bytes)) (Err 0) in
      elim (cases_Bool (leb n (length bytes))) [
        | inl t ↦ absurd (let clash : P true ≡ Err left = ap P (sym t) ∙ e in cc)
        | inr t ↦ let none : P false ≡ Err left = ap P (sym t) ∙ e in inr (a, refl, leb-false _ _ t, cc)
      ]

  exactly_stops : (bytes : List ℕ) (left : ℕ) → IsBytes bytes → (exactly n format).read bytes ≡ Err left → Stops (exactly n format) bytes left
  exactly_stops bytes left wide e = elim (settled_err bytes (whole bytes) left e) [
    | inl h ↦ subst (λ (m : ℕ). Stops (exactly n format) bytes m) h.2 (stops_within bytes h.0 (stops_whole format exact (take n bytes) h.0 (IsBytes-take n bytes wide) h.1))
    | inr h ↦ too_short bytes h.0 left wide h.1 h.2 h.3
  ]

  pub exactly_exact : Exact (exactly n format)
  exactly_exact = record {
    again = exactly_again;
    takes = exactly_takes;
    stops = exactly_stops;
    fronts = λ a front more fits e. ((let l : length (format.spell a) ≡ length front + length more = ap length e ∙ length-append front more in let m = fits.1 in omega arith), exact.fronts a front more fits.0 e);
    past = λ a c cs fits begins. (let l = length-append (format.spell a) (c ∷ cs) in let m = fits.1 in let h = begins.0 in omega arith);
    shorter = λ front more begins. ((let l = length-append front more in let h = begins.0 in omega arith), exact.shorter front more begins.1);
  }

module _ {A : Type 0} (format : Format A) (exact : Exact format) where
  measured_from : (a : A) → format.Fits a × (length (format.spell a) < 2 ^ 32) → (p : ℕ × A) × (u32 ▷ λ n. exactly n format).Fits p × (p.1 ≡ a)
  measured_from a fits = ((length (format.spell a), a), (fits.1, (fits.0, refl)), refl)

  pub measured_exact : Exact (measured format)
  measured_exact =
      made_exact (λ (p : ℕ × A). p.1) (λ a. format.Fits a × (length (format.spell a) < 2 ^ 32)) (λ a. to_be_bytes w32 (length (format.spell a)) ++ format.spell a) (u32 ▷ λ n. exactly n format)
      (both_exact u32 (λ n. exactly n format) u32_exact (λ n fits. exactly_exact format exact n))
      (record { to = λ p fits. ((fits.1.0, subst (λ (m : ℕ). m < 2 ^ 32) (sym fits.1.1) fits.0), ap (λ (m : ℕ). to_be_bytes w32 m ++ format.spell p.1) fits.1.1); from = measured_from })
