-- A value whose spelling a test of its first bytes lets pass is exact, where the test holds of each front of what it
-- holds of.
use Rattle.std.proofs.Common.{◌≡◌, ℕ, ◌+◌, ◌<◌, ◌≤◌, max, inl, inr, Bool, true, false, cond, List, [], ◌∷◌, ◌++◌, length, Ok, Err, refl, sym, ap, subst, ◌∙◌, arith}
use Rattle.std.proofs.lemmas.Bool.{cases_Bool, cases_lt}
use Rattle.std.proofs.lemmas.List.{append-nil, length-append}
use Rattle.byte_formats.specs.Reading.{Read}
use Rattle.byte_formats.specs.Format.{Format}
use Rattle.byte_formats.proofs.Readers.{IsBytes, ok_is}
use Rattle.byte_formats.proofs.Exact.{Takes, Stops, Exact, cuts}
use Rattle.record_codec.specs.Formats.{reached, limited, reaching}

-- the longest front of which the test holds
pub record Reach (goes : List ℕ → Bool) (bytes : List ℕ) (left : ℕ) : Type 0 where
  pub front : List ℕ
  pub back : List ℕ
  pub parts : bytes ≡ front ++ back
  pub size : length back ≡ left
  pub holds : goes front ≡ true
  pub fails : (b : ℕ) (bs : List ℕ) → back ≡ b ∷ bs → goes (front ++ b ∷ []) ≡ false

clash : (t : Bool) → t ≡ true → t ≡ false → ⊥
clash t e f = let both : true ≡ false = sym e ∙ f in cc

reached_ok : {A : Type 0} (t : Bool) (left : ℕ) (x y : A × List ℕ) → reached t left x ≡ Ok y → (t ≡ true) × (x ≡ y)
reached_ok true left x y e = (refl, ok_is x y e)
reached_ok false left x y e = absurd cc

reached_err : {A : Type 0} (t : Bool) (m left : ℕ) (x : A × List ℕ) → reached t m x ≡ Err left → (t ≡ false) × (m ≡ left)
reached_err true m left x e = absurd cc
reached_err false m left x e = (refl, cc)

module _ {A : Type 0} (goes : List ℕ → Bool) (left : List ℕ → ℕ) (format : Format A) (exact : Exact format) (shorter : (front more : List ℕ) → goes (front ++ more) ≡ true → goes front ≡ true) (reach : (bytes : List ℕ) → Reach goes bytes (left bytes)) where
  abbrev own : Format A
  own = reaching goes left format

  abbrev test : A → Bool
  test a = goes (format.spell a)

  own_takes : (bytes : List ℕ) (r : Read A) (x : A × List ℕ) → format.read bytes ≡ r → IsBytes bytes → limited test (left bytes) r ≡ Ok x → Takes own bytes x
  own_takes bytes (Err stopped) x read wide e = absurd cc
  own_takes bytes (Ok y) x read wide e =
      let p = reached_ok (test y.0) (left bytes) y x e in
      let t = exact.takes bytes y wide read in
      subst (λ z. Takes own bytes z) p.1 (record { fits = (t.fits, p.0); parts = t.parts })

  -- the test stops before the format does
  by_test : (bytes : List ℕ) (w : Reach goes bytes (left bytes)) → format.Begins w.front → Stops own bytes (left bytes)
  by_test bytes w begins = record {
    front = w.front;
    back = w.back;
    parts = w.parts;
    size = w.size;
    goes = (begins, w.holds);
    dead = λ b bs back begun. clash (goes (w.front ++ b ∷ [])) begun.1 (w.fails b bs back);
  }

  -- the format stops before the test does
  by_format : (bytes : List ℕ) (stopped : ℕ) (s : Stops format bytes stopped) → goes s.front ≡ true → Stops own bytes stopped
  by_format bytes stopped s holds = record {
    front = s.front;
    back = s.back;
    parts = s.parts;
    size = s.size;
    goes = (s.goes, holds);
    dead = λ b bs back begun. s.dead b bs back begun.0;
  }

  -- the value was read, and its spelling doesn't pass
  within_value : (bytes : List ℕ) (x : A × List ℕ) → Takes format bytes x → test x.0 ≡ false → format.Begins (reach bytes).front
  within_value bytes x t fails =
      let w = reach bytes in
      elim (cuts (format.spell x.0) x.1 w.front w.back (sym t.parts ∙ w.parts)) [
        | inl h ↦ exact.fronts x.0 w.front h.0 t.fits h.1
        | inr h ↦ absurd (clash (test x.0) (shorter (format.spell x.0) h.between (ap goes (sym h.longer) ∙ w.holds)) fails)
      ]

  no_more : (xs : List ℕ) → length xs ≡ 0 → xs ≡ []
  no_more [] e = refl
  no_more (x ∷ xs) e = absurd (omega arith)

  -- of two cuts the front with no fewer bytes behind it is a front of the other
  test_goes_on : (bytes : List ℕ) (stopped : ℕ) (s : Stops format bytes stopped) → left bytes ≤ stopped → goes s.front ≡ true
  test_goes_on bytes stopped s le =
      let w = reach bytes in
      elim (cuts s.front s.back w.front w.back (sym s.parts ∙ w.parts)) [
        | inr h ↦ shorter s.front h.between (ap goes (sym h.longer) ∙ w.holds)
        | inl h ↦
            let all : length s.front + length s.back ≡ length w.front + length w.back = sym (length-append s.front s.back) ∙ ap length (sym s.parts ∙ w.parts) ∙ length-append w.front w.back in
            let longer : length s.front ≡ length w.front + length h.0 = ap length h.1 ∙ length-append w.front h.0 in
            let m = s.size in
            let k = w.size in
            let none : h.0 ≡ [] = no_more h.0 (omega arith) in
            ap goes (h.1 ∙ ap (λ (l : List ℕ). w.front ++ l) none ∙ append-nil w.front) ∙ w.holds
      ]

  format_goes_on : (bytes : List ℕ) (stopped : ℕ) (s : Stops format bytes stopped) → stopped < left bytes → format.Begins (reach bytes).front
  format_goes_on bytes stopped s lt =
      let w = reach bytes in
      elim (cuts s.front s.back w.front w.back (sym s.parts ∙ w.parts)) [
        | inl h ↦ exact.shorter w.front h.0 (subst format.Begins h.1 s.goes)
        | inr h ↦
            let all : length s.front + length s.back ≡ length w.front + length w.back = sym (length-append s.front s.back) ∙ ap length (sym s.parts ∙ w.parts) ∙ length-append w.front w.back in
            let longer : length w.front ≡ length s.front + length h.between = ap length h.longer ∙ length-append s.front h.between in
            let m = s.size in
            let k = w.size in
            absurd (omega arith)
      ]

  own_stops : (bytes : List ℕ) (r : Read A) (at : ℕ) → format.read bytes ≡ r → IsBytes bytes → limited test (left bytes) r ≡ Err at → Stops own bytes at
  own_stops bytes (Ok x) at read wide e =
      let p = reached_err (test x.0) (left bytes) at x e in
      subst (λ (n : ℕ). Stops own bytes n) p.1 (by_test bytes (reach bytes) (within_value bytes x (exact.takes bytes x wide read) p.0))
  own_stops bytes (Err stopped) at read wide e =
      let is : max stopped (left bytes) ≡ at = cc in
      let s = exact.stops bytes stopped wide read in
      elim (cases_lt stopped (left bytes)) [
        | inl lt ↦ subst (λ (n : ℕ). Stops own bytes n) (let m : left bytes ≡ max stopped (left bytes) = omega arith in m ∙ is) (by_test bytes (reach bytes) (format_goes_on bytes stopped s lt))
        | inr le ↦ subst (λ (n : ℕ). Stops own bytes n) (let m : stopped ≡ max stopped (left bytes) = omega arith in m ∙ is) (by_format bytes stopped s (test_goes_on bytes stopped s le))
      ]

  pub reaching_exact : Exact (reaching goes left format)
  reaching_exact = record {
    again = λ a rest fits. ap (limited test (left (format.spell a ++ rest))) (exact.again a rest fits.0) ∙ ap (λ (t : Bool). reached t (left (format.spell a ++ rest)) (a, rest)) fits.1;
    takes = λ bytes x wide e. own_takes bytes (format.read bytes) x refl wide e;
    stops = λ bytes at wide e. own_stops bytes (format.read bytes) at refl wide e;
    fronts = λ a front more fits e. (exact.fronts a front more fits.0 e, shorter front more (ap goes (sym e) ∙ fits.1));
    past = λ a c cs fits begins. exact.past a c cs fits.0 begins.0;
    shorter = λ front more begins. (exact.shorter front more begins.0, shorter front more begins.1);
  }
