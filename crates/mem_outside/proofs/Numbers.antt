-- No two files of a store have one number: each change keeps that, and so an entry is its file's state.
use Rattle.std.proofs.Common.{◌≡◌, ◌≢◌, ◌⊎◌, inl, inr, ℕ, zero, suc, ◌+◌, ◌<◌, ◌≤◌, Option, None, Some, Bool, true, ◌&&◌, List, [], ◌∷◌, IsTrue, length, get_or, map, refl, sym, ap, ◌∙◌, subst, arith}
use Rattle.std.specs.Prelude.{◌==◌, not, IfSome, IsSomeAnd}
use Rattle.std.specs.List.{list_all}
use Rattle.std.proofs.lemmas.Bool.{cases_eq}
use Rattle.std.proofs.lemmas.List.{get_or_default}
use Rattle.std.proofs.lemmas.Bool.Decides.{nat_tests}
use Rattle.mem_outside.specs.Shown.{Shown}
use Rattle.mem_outside.specs.Outcomes.{absent, numbers_differ, state_in, with_file, left_of, kept}
use Rattle.mem_outside.specs.Loosening.{both, and_of}
use Rattle.mem_outside.specs.Sound.{look_same, look_other, with_here, with_later}
use Rattle.mem_outside.proofs.Nearest.{number_at, lower_still}

not_equal : (a b : ℕ) → a ≢ b → IsTrue (not (a == b))
not_equal a b other = grind (arith, nat_tests)

differs : (a b : ℕ) → IsTrue (not (a == b)) → a ≢ b
differs a b other = grind (arith, nat_tests)

-- none of the files has this number
abbrev pub has_no : ℕ → List Shown → Bool
has_no number files = list_all (λ (t : Shown). not (t.number == number)) files

module _ (all : Bool) where
  kept_has_no : (number : ℕ) (files : List Shown) → has_no number (map (kept all) files) ≡ has_no number files
  kept_has_no number [] = refl
  kept_has_no number (t ∷ files) = ap (λ (b : Bool). not (t.number == number) && b) (kept_has_no number files)

  kept_differ : (files : List Shown) → numbers_differ (map (kept all) files) ≡ numbers_differ files
  kept_differ [] = refl
  kept_differ (t ∷ files) =
      ap (λ (b : Bool). b && numbers_differ (map (kept all) files)) (kept_has_no t.number files)
      ∙ ap (λ (b : Bool). has_no t.number files && b) (kept_differ files)

  module _ (s : Shown) where
    with_has_no : (number : ℕ) (files : List Shown) → s.number ≢ number → IsTrue (has_no number files) → IsTrue (has_no number (with_file all s files))
    with_has_no number [] other none = and_of (not (s.number == number)) true (not_equal s.number number other) refl
    with_has_no number (t ∷ files) other none =
        let parts = both (not (t.number == number)) (has_no number files) none in
        elim (cases_eq t.number s.number) [
          | inl here ↦ subst (λ (l : List Shown). IsTrue (has_no number l)) (sym (with_here all s t files here))
              (and_of (not (s.number == number)) (has_no number (map (kept all) files)) (not_equal s.number number other) (subst IsTrue (sym (kept_has_no number files)) parts.1))
          | inr later ↦ subst (λ (l : List Shown). IsTrue (has_no number l)) (sym (with_later all s t files later))
              (and_of (not (t.number == number)) (has_no number (with_file all s files)) parts.0 (with_has_no number files other parts.1))
        ]

    pub with_file_differ : (files : List Shown) → IsTrue (numbers_differ files) → IsTrue (numbers_differ (with_file all s files))
    with_file_differ [] differ = refl
    with_file_differ (t ∷ files) differ =
        let parts = both (has_no t.number files) (numbers_differ files) differ in
        elim (cases_eq t.number s.number) [
          | inl here ↦ subst (λ (l : List Shown). IsTrue (numbers_differ l)) (sym (with_here all s t files here))
              (and_of (has_no s.number (map (kept all) files)) (numbers_differ (map (kept all) files))
              (subst (λ (n : ℕ). IsTrue (has_no n (map (kept all) files))) here (subst IsTrue (sym (kept_has_no t.number files)) parts.0))
              (subst IsTrue (sym (kept_differ files)) parts.1))
          | inr later ↦ subst (λ (l : List Shown). IsTrue (numbers_differ l)) (sym (with_later all s t files later))
              (and_of (has_no t.number (with_file all s files)) (numbers_differ (with_file all s files))
              (with_has_no t.number files (λ is. later (sym is)) parts.0) (with_file_differ files parts.1))
        ]

pub changed_differ : (all : Bool) (s : Shown) (xs ys : List Shown) → ys ≡ with_file all s xs → IsTrue (numbers_differ xs) → IsTrue (numbers_differ ys)
changed_differ all s xs ys is differ = subst (λ (l : List Shown). IsTrue (numbers_differ l)) (sym is) (with_file_differ all s xs differ)

-- after a crash
module _ (greatest : Bool) (filler : ℕ) (removed_too : Bool) where
  left_has_no : (number : ℕ) (files : List Shown) → has_no number (map (left_of greatest filler removed_too) files) ≡ has_no number files
  left_has_no number [] = refl
  left_has_no number (t ∷ files) = ap (λ (b : Bool). not (t.number == number) && b) (left_has_no number files)

  pub left_differ : (files : List Shown) → numbers_differ (map (left_of greatest filler removed_too) files) ≡ numbers_differ files
  left_differ [] = refl
  left_differ (t ∷ files) =
      ap (λ (b : Bool). b && numbers_differ (map (left_of greatest filler removed_too) files)) (left_has_no t.number files)
      ∙ ap (λ (b : Bool). has_no t.number files && b) (left_differ files)

-- ---- an entry is its file's state

entry_of_other : (number : ℕ) (files : List Shown) (k : ℕ) → IsTrue (has_no number files) → k < length files → number ≢ number_at files k
entry_of_other number [] k none less = absurd (omega (arith, less))
entry_of_other number (t ∷ files) zero none less = λ same.
    absurd (differs t.number number (both (not (t.number == number)) (has_no number files) none).0 (sym same))
entry_of_other number (t ∷ files) (suc k) none less =
    entry_of_other number files k (both (not (t.number == number)) (has_no number files) none).1 (omega (arith, less))

pub own_entry : (files : List Shown) (k : ℕ) → IsTrue (numbers_differ files) → k < length files → state_in files (number_at files k) ≡ get_or files k (absent 0)
own_entry [] k differ less = absurd (omega (arith, less))
own_entry (t ∷ files) zero differ less = look_same t files t.number refl
own_entry (t ∷ files) (suc k) differ less =
    let parts = both (has_no t.number files) (numbers_differ files) differ in
    let shorter : k < length files = omega (arith, less) in
    look_other t files (number_at files k) (entry_of_other t.number files k parts.0 shorter) ∙ own_entry files k parts.1 shorter

-- ---- one more entry of the walk

pub found_still : (P Q : ℕ → Type 0) (next result : Option ℕ) → IfSome next P → IfSome result (λ n. (next ≡ Some n) ⊎ Q n) → ((n : ℕ) → Q n → P n) → IfSome result P
found_still P Q next None found one new = one
found_still P Q next (Some n) found (inl old) new = subst (λ (o : Option ℕ). IfSome o P) old found
found_still P Q next (Some n) found (inr here) new = new n here

module _ (files : List Shown) (from k : ℕ) (next result : Option ℕ) (s : Shown) (differ : IsTrue (numbers_differ files)) (less : k < length files) (read : s ≡ get_or files k s) where
  is : get_or files k (absent 0) ≡ s
  is = get_or_default files k (absent 0) s less ∙ sym read

  is_there : (state_in files (number_at files k)).there ≡ s.there
  is_there = ap (λ (t : Shown). t.there) (own_entry files k differ less ∙ is)

  pub found_next : IfSome next (λ n. (from ≤ n) × ((state_in files n).there ≡ true))
      → IfSome result (λ n. (next ≡ Some n) ⊎ ((n ≡ s.number) × (from ≤ n) × (s.there ≡ true)))
      → IfSome result (λ n. (from ≤ n) × ((state_in files n).there ≡ true))
  found_next found one =
      found_still (λ n. (from ≤ n) × ((state_in files n).there ≡ true)) (λ n. (n ≡ s.number) × (from ≤ n) × (s.there ≡ true)) next result found one
      (λ n here. (here.1, ap (λ (m : ℕ). (state_in files m).there) (here.0 ∙ sym (ap (λ (t : Shown). t.number) is)) ∙ is_there ∙ here.2))

  pub least_next : ((j : ℕ) → j < k → from ≤ number_at files j → (state_in files (number_at files j)).there ≡ true → IsSomeAnd next (λ n. n ≤ number_at files j))
      → (from ≤ s.number → s.there ≡ true → IsSomeAnd result (λ n. n ≤ s.number))
      → IfSome next (λ m. IsSomeAnd result (λ n. n ≤ m))
      → (j : ℕ) → j < k + 1 → from ≤ number_at files j → (state_in files (number_at files j)).there ≡ true → IsSomeAnd result (λ n. n ≤ number_at files j)
  least_next least here lower j below low there = elim (cases_eq j k) [
    | inl same ↦
        let number : number_at files j ≡ s.number = ap (number_at files) same ∙ ap (λ (t : Shown). t.number) is in
        subst (λ (m : ℕ). IsSomeAnd result (λ n. n ≤ m)) (sym number)
        (here (omega (arith, low, number)) (sym is_there ∙ ap (λ (i : ℕ). (state_in files (number_at files i)).there) (sym same) ∙ there))
    | inr other ↦ lower_still next result (number_at files j) (least j (omega (arith, below, other)) low there) lower
  ]
