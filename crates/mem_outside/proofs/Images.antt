-- What an image leaves is an outcome.
use Rattle.std.proofs.Common.{◌≡◌, ◌⊎◌, inl, inr, ℕ, ◌-◌, ◌≤◌, Bool, true, false, ◌&&◌, ◌||◌, List, [], ◌∷◌, Option, None, Some, IsTrue, length, map, replicate, refl, sym, ap, ◌∙◌, subst, arith, length-append}
use Rattle.std.specs.Prelude.{◌==◌, not, nat_le, unwrap_or, cond}
use Rattle.std.specs.List.{list_all}
use Rattle.std.proofs.lemmas.Bool.Decides.{nat_tests}
use Rattle.std.proofs.lemmas.Bool.{cases_eq}
use Rattle.std.proofs.lemmas.List.{length-map, length-replicate}
use Rattle.mem_outside.specs.Shown.{Shown, Loose}
use Rattle.mem_outside.specs.Outcomes.{fits, allows, AnyAllows, Outcome, absent, state_in, is_sound, filled, first_or, left_of, stable_file}
use Rattle.mem_outside.specs.Loosening.{both, and_of, same_test, test_same, fits_long, fits_settled, fits_more}
use Rattle.mem_outside.specs.Sound.{facts, sound_of, test_false, look_same, look_other, state_sound}

fits_filled : (ps : List (Option ℕ)) (filler : ℕ) → IsTrue (fits ps (map (λ p. unwrap_or p filler) ps))
fits_filled [] filler = refl
fits_filled (None ∷ ps) filler = fits_filled ps filler
fits_filled (Some b ∷ ps) filler = and_of (b == b) (fits ps (map (λ p. unwrap_or p filler) ps)) (same_test b) (fits_filled ps filler)

filled_size : (greatest : Bool) (filler : ℕ) (loose : Loose) → length loose.fixed ≤ loose.longest → length (filled greatest filler loose) ≤ loose.longest
filled_size true filler loose low =
    omega (
      arith,
      length-append (map (λ p. unwrap_or p filler) loose.fixed) (replicate (loose.longest - length loose.fixed) filler),
      length-map loose.fixed (λ p. unwrap_or p filler),
      length-replicate {A = ℕ} (loose.longest - length loose.fixed) filler,
      low,
    )
filled_size false filler loose low =
    omega (arith, length-append (map (λ p. unwrap_or p filler) loose.fixed) [], length-map loose.fixed (λ p. unwrap_or p filler), low)

of_le : (a b : ℕ) → a ≤ b → IsTrue (nat_le a b)
of_le a b h = grind (arith, nat_tests)

le_of : (a b : ℕ) → IsTrue (nat_le a b) → a ≤ b
le_of a b h = grind (arith, nat_tests)

filled_allowed : (greatest : Bool) (filler : ℕ) (loose : Loose) → length loose.fixed ≤ loose.longest → IsTrue (allows loose (filled greatest filler loose))
filled_allowed greatest filler loose low =
    and_of (fits loose.fixed (filled greatest filler loose)) (nat_le (length (filled greatest filler loose)) loose.longest)
    (fits_more loose.fixed (map (λ p. unwrap_or p filler) loose.fixed) (cond greatest (replicate (loose.longest - length loose.fixed) filler) []) (fits_filled loose.fixed filler))
    (of_le (length (filled greatest filler loose)) loose.longest (filled_size greatest filler loose low))

-- of the file, or of a removed one
left_allowed : (greatest : Bool) (filler : ℕ) (removed_too : Bool) (s : Shown) → IsTrue (is_sound s) → Outcome s (left_of greatest filler removed_too s).bytes
left_allowed greatest filler false s sound =
    let f = facts s sound in
    inl (filled_allowed greatest filler s.loose (omega (arith, fits_long s.loose.fixed s.bytes f.fit, f.long)))
left_allowed greatest filler true s sound = by_gone s.gone (facts s sound).gone
  where
    by_gone : (gone : List Loose) → IsTrue (list_all (λ (l : Loose). nat_le (length l.fixed) l.longest) gone)
        → IsTrue (allows s.loose (filled greatest filler (first_or gone s.loose))) ⊎ AnyAllows gone (filled greatest filler (first_or gone s.loose))
    by_gone [] h =
        let f = facts s sound in
        inl (filled_allowed greatest filler s.loose (omega (arith, fits_long s.loose.fixed s.bytes f.fit, f.long)))
    by_gone (l ∷ gone) h =
        inr (inl (filled_allowed greatest filler l (le_of (length l.fixed) l.longest (both (nat_le (length l.fixed) l.longest) (list_all (λ (m : Loose). nat_le (length m.fixed) m.longest) gone) h).0)))

module _ (greatest : Bool) (filler : ℕ) (removed_too : Bool) where
  left_absent : (removed : Bool) (g : ℕ) → left_of greatest filler removed (absent g) ≡ absent g
  left_absent removed g = by_both greatest removed
    where
      by_both : (a b : Bool) → left_of a filler b (absent g) ≡ absent g
      by_both true true = refl
      by_both true false = refl
      by_both false true = refl
      by_both false false = refl

  pub left_found : (files : List Shown) (g : ℕ) → state_in (map (left_of greatest filler removed_too) files) g ≡ left_of greatest filler removed_too (state_in files g)
  left_found [] g = sym (left_absent removed_too g)
  left_found (s ∷ files) g = elim (cases_eq s.number g) [
    | inl same ↦ look_same (left_of greatest filler removed_too s) (map (left_of greatest filler removed_too) files) g same ∙ ap (left_of greatest filler removed_too) (sym (look_same s files g same))
    | inr other ↦ look_other (left_of greatest filler removed_too s) (map (left_of greatest filler removed_too) files) g other ∙ left_found files g ∙ ap (left_of greatest filler removed_too) (sym (look_other s files g other))
  ]

  -- each file of an image has one of its outcomes
  pub left_outcome : (files left : List Shown) (g : ℕ) → IsTrue (list_all is_sound files) → left ≡ map (left_of greatest filler removed_too) files → Outcome (state_in files g) (state_in left g).bytes
  left_outcome files left g sound is =
      subst (λ (s : Shown). Outcome (state_in files g) s.bytes) (sym (ap (λ (l : List Shown). state_in l g) is ∙ left_found files g))
      (left_allowed greatest filler removed_too (state_in files g) (state_sound files g sound))

  left_there : (s : Shown) (there removed : Bool) (gone : List Loose) → (IsTrue (there || (s.loose.longest == 0))) → length s.loose.fixed ≤ s.loose.longest
      → IsTrue ((there || (removed && not (length gone == 0))) || (length (filled greatest filler (cond removed (first_or gone s.loose) s.loose)) == 0))
  left_there s true removed gone h low = refl
  left_there s false false gone h low = none s h low
    where
      none : (t : Shown) → IsTrue (t.loose.longest == 0) → length t.loose.fixed ≤ t.loose.longest → IsTrue (length (filled greatest filler t.loose) == 0)
      none t is fit =
          let empty : length (filled greatest filler t.loose) ≡ 0 = omega (arith, filled_size greatest filler t.loose fit, test_same t.loose.longest 0 is) in
          subst (λ (n : ℕ). IsTrue (n == 0)) (sym empty) (same_test 0)
  left_there s false true [] h low = none s h low
    where
      none : (t : Shown) → IsTrue (t.loose.longest == 0) → length t.loose.fixed ≤ t.loose.longest → IsTrue (length (filled greatest filler t.loose) == 0)
      none t is fit =
          let empty : length (filled greatest filler t.loose) ≡ 0 = omega (arith, filled_size greatest filler t.loose fit, test_same t.loose.longest 0 is) in
          subst (λ (n : ℕ). IsTrue (n == 0)) (sym empty) (same_test 0)
  left_there s false true (l ∷ gone) h low =
      subst (λ (b : Bool). IsTrue ((false || (true && not b)) || (length (filled greatest filler l) == 0))) (sym (test_false (length (l ∷ gone)) 0 (λ is. absurd (omega (arith, is))))) refl

  left_sound : (s : Shown) → IsTrue (is_sound s) → IsTrue (is_sound (left_of greatest filler removed_too s))
  left_sound s sound =
      let f = facts s sound in
      sound_of (left_of greatest filler removed_too s) (record {
        fit = fits_settled (left_of greatest filler removed_too s).bytes;
        long = omega arith;
        there = left_there s s.there removed_too s.gone f.there (omega (arith, fits_long s.loose.fixed s.bytes f.fit, f.long));
        gone = refl;
      })

  pub all_left_sound : (files : List Shown) → IsTrue (list_all is_sound files) → IsTrue (list_all is_sound (map (left_of greatest filler removed_too) files))
  all_left_sound [] sound = refl
  all_left_sound (s ∷ files) sound =
      let parts = both (is_sound s) (list_all is_sound files) sound in
      and_of (is_sound (left_of greatest filler removed_too s)) (list_all is_sound (map (left_of greatest filler removed_too) files)) (left_sound s parts.0) (all_left_sound files parts.1)

pub stable_sound : (number : ℕ) (bytes : List ℕ) → IsTrue (is_sound (stable_file number bytes))
stable_sound number bytes = sound_of (stable_file number bytes) (record { fit = fits_settled bytes; long = omega arith; there = refl; gone = refl })
