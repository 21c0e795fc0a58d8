-- Lists of which the first element to which something is left is changed.
use Rattle.std.proofs.Common.{◌≡◌, ◌≢◌, sym, ap, ◌∙◌, subst, ℕ, zero, suc, ◌<◌, List, [], ◌∷◌, ◌++◌, length, get_or, arith}
use Rattle.std.proofs.Math.ListN.{set}
use Rattle.std.specs.List.{AllByRecursion, flat_map}
use Rattle.row_blob.specs.Kept.{AreEach}
use Rattle.executor.specs.Firsts.{IsFirst}

module _ {A B : Type 0} (left : A → List B) where
  pub is_within : (xs : List A) (at : ℕ) → IsFirst left xs at → at < length xs
  is_within [] at is = absurd is
  is_within (x ∷ xs) zero is = omega arith
  is_within (x ∷ xs) (suc at) is = let rest : at < length xs = is_within xs at is.1 in omega arith

  -- what is left to it
  pub is_left : (xs : List A) (at : ℕ) (d : A) → IsFirst left xs at → left (get_or xs at d) ≢ []
  is_left [] at d is = absurd is
  is_left (x ∷ xs) zero d is = is
  is_left (x ∷ xs) (suc at) d is = is_left xs at d is.1

  -- if one less is left to it, then so it is to all
  pub one_less : (xs : List A) (at : ℕ) (d y : A) (b : B) → IsFirst left xs at → left (get_or xs at d) ≡ b ∷ left y → flat_map left xs ≡ b ∷ flat_map left (set xs at y)
  one_less [] at d y b is less = absurd is
  one_less (x ∷ xs) zero d y b is less = ap (λ (l : List B). l ++ flat_map left xs) less
  one_less (x ∷ xs) (suc at) d y b is less =
      ap (λ (l : List B). l ++ flat_map left xs) is.0 ∙ one_less xs at d y b is.1 less
      ∙ ap (λ (l : List B). b ∷ (l ++ flat_map left (set xs at y))) (sym is.0)

  -- the first that is left to it is the first that is left to all
  pub first_left : (xs : List A) (at : ℕ) (d : A) (b c : B) (bs cs : List B) → IsFirst left xs at → left (get_or xs at d) ≡ b ∷ bs → flat_map left xs ≡ c ∷ cs → b ≡ c
  first_left [] at d b c bs cs is here all = absurd is
  first_left (x ∷ xs) zero d b c bs cs is here all =
      let whole : b ∷ (bs ++ flat_map left xs) ≡ c ∷ cs = ap (λ (l : List B). l ++ flat_map left xs) (sym here) ∙ all in cc
  first_left (x ∷ xs) (suc at) d b c bs cs is here all =
      first_left xs at d b c bs cs is.1 here (ap (λ (l : List B). l ++ flat_map left xs) (sym is.0) ∙ all)

  -- what holds of all that is left holds of what is left to it
  pub all_left : (P : B → Type 0) (xs : List A) (at : ℕ) (d : A) → IsFirst left xs at → AllByRecursion P (flat_map left xs) → AllByRecursion P (left (get_or xs at d))
  all_left P [] at d is all = absurd is
  all_left P (x ∷ xs) zero d is all = front (left x) (flat_map left xs) all
    where
      front : (bs cs : List B) → AllByRecursion P (bs ++ cs) → AllByRecursion P bs
      front [] cs all = tt
      front (b ∷ bs) cs all = (all.0, front bs cs all.1)
  all_left P (x ∷ xs) (suc at) d is all = all_left P xs at d is.1 (subst (λ (l : List B). AllByRecursion P (l ++ flat_map left xs)) is.0 all)

module _ {K A : Type 0} where
  -- what holds of each with its element, and of each alone
  pub each_at : (P : K → A → Type 0) (ks : List K) (xs : List A) (at : ℕ) (d : A) → at < length xs → AreEach P ks xs → (k : K) × P k (get_or xs at d)
  each_at P [] [] at d within each = absurd (omega (arith, within))
  each_at P [] (x ∷ xs) at d within each = absurd each
  each_at P (k ∷ ks) [] at d within each = absurd each
  each_at P (k ∷ ks) (x ∷ xs) zero d within each = (k, each.0)
  each_at P (k ∷ ks) (x ∷ xs) (suc at) d within each = each_at P ks xs at d (omega (arith, within)) each.1

  pub each_with : (H : K → Type 0) (P : K → A → Type 0) (ks : List K) (xs : List A) (at : ℕ) (d : A) → at < length xs → AllByRecursion H ks → AreEach P ks xs → (k : K) × H k × P k (get_or xs at d)
  each_with H P [] [] at d within all each = absurd (omega (arith, within))
  each_with H P [] (x ∷ xs) at d within all each = absurd each
  each_with H P (k ∷ ks) [] at d within all each = absurd each
  each_with H P (k ∷ ks) (x ∷ xs) zero d within all each = (k, all.0, each.0)
  each_with H P (k ∷ ks) (x ∷ xs) (suc at) d within all each = each_with H P ks xs at d (omega (arith, within)) all.1 each.1

  pub each_set : (H : K → Type 0) (P : K → A → Type 0) (ks : List K) (xs : List A) (at : ℕ) (d y : A) → AllByRecursion H ks → ((k : K) → H k → P k (get_or xs at d) → P k y) → AreEach P ks xs
      → AreEach P ks (set xs at y)
  each_set H P [] [] at d y all gives each = tt
  each_set H P [] (x ∷ xs) at d y all gives each = absurd each
  each_set H P (k ∷ ks) [] at d y all gives each = absurd each
  each_set H P (k ∷ ks) (x ∷ xs) zero d y all gives each = (gives k all.0 each.0, each.1)
  each_set H P (k ∷ ks) (x ∷ xs) (suc at) d y all gives each = (each.0, each_set H P ks xs at d y all.1 gives each.1)
