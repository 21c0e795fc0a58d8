-- What is left of lists whose ids are taken out, where lists without ids go.
use Rattle.std.proofs.Common.{◌≡◌, ◌==◌, refl, sym, ap, ◌∙◌, subst, ℕ, ◌≤◌, Bool, true, false, not, cond, List, [], ◌∷◌, length, Option, None, Some, IfSome, vec_capacity, arith}
use Rattle.std.specs.List.{AllByRecursion, IsDistinct, filter}
use Rattle.std.specs.Map.{keys_of, lookup}
use Rattle.std.specs.Map.Calls.{RetainsPairs}
use Rattle.std.specs.Option.{option_map_or}
use Rattle.std.proofs.lemmas.Bool.{eqb-true, not-false}
use Rattle.std.proofs.lemmas.List.{nil_from_length}
use Rattle.std.proofs.lemmas.Map.Keys.{IsDistinct-head, IsDistinct-tail}
use Rattle.rows_core.specs.declared.file_ref.Digest.{Digest}
use Rattle.cache_index.specs.Lists.{Ids, HasPlaces, same_digest}
use Rattle.cache_index.proofs.Digests.{same_digest-Decides}

-- a list and what is left of it, if there is one
abbrev IsLeft : (ℕ → Bool) → Option Ids → Option Ids → Type 0
IsLeft P None None = Unit {0}
IsLeft P None (Some w) = ⊥
IsLeft P (Some v) None = filter P v.items ≡ []
IsLeft P (Some v) (Some w) = (w.items ≡ filter P v.items) × (vec_capacity w ≡ vec_capacity v)

none-left : (P : ℕ → Bool) (o : Option Ids) → IsLeft P None o → o ≡ None
none-left P None left = refl
none-left P (Some w) left = absurd left

filter-within : (P : ℕ → Bool) (xs : List ℕ) → length (filter P xs) ≤ length xs
filter-within P [] = omega arith
filter-within P (x ∷ xs) = by (P x) (filter-within P xs)
  where
    by : (b : Bool) → length (filter P xs) ≤ length xs → length (cond b (x ∷ filter P xs) (filter P xs)) ≤ length (x ∷ xs)
    by true rest = omega (arith, rest)
    by false rest = omega (arith, rest)

-- no other list has its digest
absent : (own : Digest) (es : List (Digest × Ids)) → AllByRecursion (λ key. same_digest own key ≡ false) (keys_of es) → lookup (same_digest own) es ≡ None
absent own [] apart = refl
absent own (e ∷ es) apart = ap (λ b. cond b (Some e.1) (lookup (same_digest own) es)) apart.0 ∙ absent own es apart.1

empty-told : (b : Bool) (xs : List ℕ) → b ≡ not (length xs == 0) → b ≡ false → xs ≡ []
empty-told b xs is told = nil_from_length xs (eqb-true (length xs) 0 (not-false (length xs == 0) (sym is ∙ told)))

module _ {F : Type 0} (T : F → Digest → Ids → Bool → Ids → F → Type 0) (P : ℕ → Bool) (f : F)
    (says : (k : Digest) (v : Ids) (b : Bool) (w : Ids) (g : F) → T f k v b w g
    → (w.items ≡ filter P v.items) × (b ≡ not (length w.items == 0)) × (vec_capacity w ≡ vec_capacity v) × (g ≡ f)) where
  step : (digest : Digest) (e : Digest × Ids) (es rest : List (Digest × Ids)) (b : Bool) (w : Ids) → IsDistinct same_digest (keys_of (e ∷ es))
      → (w.items ≡ filter P e.1.items) → (b ≡ not (length w.items == 0)) → (vec_capacity w ≡ vec_capacity e.1) → IsLeft P (lookup (same_digest digest) es) (lookup (same_digest digest) rest)
      → IsLeft P (lookup (same_digest digest) (e ∷ es)) (lookup (same_digest digest) (cond b ((e.0, w) ∷ rest) rest))
  step digest e es rest b w apart items told room behind = by (same_digest digest e.0) refl b refl
    where
      gone : same_digest digest e.0 ≡ true → lookup (same_digest digest) rest ≡ None
      gone same =
          let own = (same_digest-Decides digest e.0).0 same in
          let none = absent digest es (subst (λ (d : Digest). AllByRecursion (λ key. same_digest d key ≡ false) (keys_of es)) (sym own) (IsDistinct-head same_digest e.0 (keys_of es) apart)) in
          none-left P _ (subst (λ o. IsLeft P o (lookup (same_digest digest) rest)) none behind)

      by : (h : Bool) → same_digest digest e.0 ≡ h → (c : Bool) → b ≡ c
          → IsLeft P (cond h (Some e.1) (lookup (same_digest digest) es)) (lookup (same_digest digest) (cond c ((e.0, w) ∷ rest) rest))
      by true same true is = subst (λ h. IsLeft P (Some e.1) (cond h (Some w) (lookup (same_digest digest) rest))) (sym same) (items, room)
      by true same false is = subst (λ o. IsLeft P (Some e.1) o) (sym (gone same)) (sym items ∙ empty-told b w.items told is)
      by false same true is = subst (λ h. IsLeft P (lookup (same_digest digest) es) (cond h (Some w) (lookup (same_digest digest) rest))) (sym same) behind
      by false same false is = behind

  left : (digest : Digest) (es kept : List (Digest × Ids)) → IsDistinct same_digest (keys_of es) → RetainsPairs T f es kept
      → IsLeft P (lookup (same_digest digest) es) (lookup (same_digest digest) kept)
  left digest [] kept apart r = subst (λ k. IsLeft P None (lookup (same_digest digest) k)) (sym r) tt
  left digest (e ∷ es) kept apart (b, w, g, rest, t, more, is) =
      let s = says e.0 e.1 b w g t in
      let behind = left digest es rest (IsDistinct-tail same_digest e.0 (keys_of es) apart) (subst (λ h. RetainsPairs T h es rest) s.3 more) in
      subst (λ k. IsLeft P (lookup (same_digest digest) (e ∷ es)) (lookup (same_digest digest) k)) (sym is) (step digest e es rest b w apart s.0 s.1 s.2 behind)

ids-left : (P : ℕ → Bool) (old new : Option Ids) → IsLeft P old new → option_map_or (λ (ids : Ids). ids.items) new [] ≡ filter P (option_map_or (λ (ids : Ids). ids.items) old [])
ids-left P None None is = refl
ids-left P None (Some w) is = absurd is
ids-left P (Some v) None is = sym is
ids-left P (Some v) (Some w) is = is.0

places-left : (P : ℕ → Bool) (more : ℕ) (old new : Option Ids) → IsLeft P old new → IfSome old (HasPlaces more) → IfSome new (HasPlaces more)
places-left P more old None is has = tt
places-left P more None (Some w) is has = absurd is
places-left P more (Some v) (Some w) is has =
    let less = filter-within P v.items in
    let long = ap length is.0 in
    omega (arith, less, long, is.1, has)

module _ {F : Type 0} (T : F → Digest → Ids → Bool → Ids → F → Type 0) (P : ℕ → Bool) (f : F)
    (says : (k : Digest) (v : Ids) (b : Bool) (w : Ids) (g : F) → T f k v b w g
    → (w.items ≡ filter P v.items) × (b ≡ not (length w.items == 0)) × (vec_capacity w ≡ vec_capacity v) × (g ≡ f))
    (es kept : List (Digest × Ids)) (apart : IsDistinct same_digest (keys_of es)) (retained : RetainsPairs T f es kept) (digest : Digest) where
  pub ids_left : option_map_or (λ (ids : Ids). ids.items) (lookup (same_digest digest) kept) [] ≡ filter P (option_map_or (λ (ids : Ids). ids.items) (lookup (same_digest digest) es) [])
  ids_left = ids-left P _ _ (left T P f says digest es kept apart retained)

  pub places_left : (more : ℕ) → IfSome (lookup (same_digest digest) es) (HasPlaces more) → IfSome (lookup (same_digest digest) kept) (HasPlaces more)
  places_left more has = places-left P more _ _ (left T P f says digest es kept apart retained) has
