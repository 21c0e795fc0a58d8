-- A call that changes one file.
use Rattle.std.proofs.Common.{◌≡◌, ◌≢◌, ◌⊎◌, inl, inr, ℕ, Bool, true, false, List, [], ◌∷◌, ◌++◌, IsTrue, length, sym, ap, ◌∙◌, subst}
use Rattle.std.specs.List.{list_all}
use Rattle.std.proofs.lemmas.Bool.{cases_eq}
use Rattle.outside_traits.specs.Calls.{Acts, Torn, Shortened, Same}
use Rattle.outside_traits.proofs.ByteLemmas.{torn_same, torn_done, shortened_same, shortened_cut}
use Rattle.mem_outside.specs.Shown.{Shown}
use Rattle.mem_outside.specs.Outcomes.{Outcome, written, shortened, synced, kept, state_in, with_file, is_sound}
use Rattle.mem_outside.specs.Moments.{view_of}
use Rattle.mem_outside.proofs.Calls.{acted}
use Rattle.mem_outside.specs.Sound.{state_sound, with_file_same, with_file_other, with_file_sound, synced_only, reads_outcome}

module _ (file : ℕ) (all : Bool) (n : Shown) (xs ys : List Shown) (is : ys ≡ with_file all n xs) (number : n.number ≡ file) where
  pub changed_state : state_in ys file ≡ n
  changed_state = ap (λ (l : List Shown). state_in l file) is ∙ with_file_same all n xs file number

  pub changed_sound : IsTrue (is_sound n) → IsTrue (list_all is_sound xs) → IsTrue (list_all is_sound ys)
  changed_sound sound rest = subst (λ (l : List Shown). IsTrue (list_all is_sound l)) (sym is) (with_file_sound all n xs sound rest)

  pub others_stay : (g : ℕ) → g ≢ file → state_in ys g ≡ kept all (state_in xs g)
  others_stay g other = ap (λ (l : List Shown). state_in l g) is ∙ with_file_other all n xs g (λ same. other (same ∙ number))

  either : (a : Bool) (s t : Shown) → t ≡ kept a s → (t ≡ kept false s) ⊎ (t ≡ s)
  either true s t e = inr e
  either false s t e = inl e

  pub changed_acts : (step : List ℕ → List ℕ → Type 0) (past next : List (List Shown)) → next ≡ past ++ xs ∷ []
      → step (state_in xs file).bytes n.bytes → ((x : List ℕ) → Outcome n x → (d : List ℕ) × Outcome (state_in xs file) d × step d x)
      → Acts file step (view_of past xs) (view_of next ys)
  changed_acts step past next next_is seen here =
      subst (λ (l : List (List Shown)). Acts file step (view_of past xs) (view_of l ys)) (sym next_is)
      (acted file step past xs ys
      (subst (λ (s : Shown). step (state_in xs file).bytes s.bytes) (sym changed_state) seen)
      (λ g other. either all (state_in xs g) (state_in ys g) (others_stay g other))
      (λ x now. here x (subst (λ (s : Shown). Outcome s x) changed_state now)))

  pub none_gone : all ≡ false → n.gone ≡ [] → (g : ℕ) → (state_in ys g).gone ≡ []
  none_gone none empty g = elim (cases_eq g file) [
    | inl same ↦ ap (λ (m : ℕ). (state_in ys m).gone) same ∙ ap (λ (s : Shown). s.gone) changed_state ∙ empty
    | inr other ↦ ap (λ (s : Shown). s.gone) (others_stay g other) ∙ ap (λ (a : Bool). (kept a (state_in xs g)).gone) none
  ]

-- the states that the calls make
module _ (file : ℕ) (xs : List Shown) (sound : IsTrue (list_all is_sound xs)) where
  pub here_sound : IsTrue (is_sound (state_in xs file))
  here_sound = state_sound xs file sound

  pub write_seen : (at : ℕ) (bytes : List ℕ) (done : Bool) → Torn at (length bytes) (state_in xs file).bytes (written at bytes done (state_in xs file)).bytes
  write_seen at bytes true = torn_done (state_in xs file).bytes bytes at
  write_seen at bytes false = torn_same (state_in xs file).bytes at (length bytes)

  pub cut_seen : (len : ℕ) (done : Bool) → Shortened len (state_in xs file).bytes (shortened len done (state_in xs file)).bytes
  cut_seen len true = shortened_cut (state_in xs file).bytes len
  cut_seen len false = shortened_same (state_in xs file).bytes len

  pub sync_here : (x : List ℕ) → Outcome (synced (state_in xs file)) x → (d : List ℕ) × Outcome (state_in xs file) d × Same d x
  sync_here x now = ((state_in xs file).bytes, reads_outcome (state_in xs file) here_sound, synced_only (state_in xs file) x now)
