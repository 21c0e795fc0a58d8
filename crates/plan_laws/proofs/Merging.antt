-- The merge of two lists that ascend, in which of two elements that tie the one of the left list comes first.
use Rattle.std.proofs.Common.{◌≡◌, refl, sym, ap, ◌∙◌, subst, zero, suc, ◌+◌, Bool, true, false, cond, not, ◌&&◌, List, [], ◌∷◌, ◌++◌, append-nil, get_or, arith}
use Rattle.std.specs.Bool.{⊤}
use Rattle.std.specs.Cmp.{IsTotalOrder, IsStrictWeakOrder}
use Rattle.std.specs.List.{filter}
use Rattle.std.specs.List.Sorted.{IsPermutation, IsSorted, IsSortedBy, IsStable, IsStableBy, ties}
use Rattle.std.specs.Ordering.{is_le, is_lt, ordering_reverse}
use Rattle.std.specs.declared.cmp.Ordering.{Ordering}
use Rattle.std.specs.declared.cmp.Ordering.TheVariants.{Less, Equal, Greater}
use Rattle.std.proofs.lemmas.List.Elements.{filter-append}
use Rattle.std.proofs.lemmas.List.Sorted.{ranks_by, IsPermutation-refl, IsPermutation-cons, IsPermutation-trans, IsPermutation-middle}
use Rattle.std.proofs.lemmas.Bool.{not-false, not-true}
use Rattle.plan_laws.specs.Merge.{merge_at, merge_by}
use Rattle.plan_laws.proofs.StableLists.{Ascends, ascends_from_sorted, none_below_itself, none_ties, one_list}

-- ---- the elements of both lists

module _ {X : Type 0} (first : X → X → Bool) where
  has_both_at : (x : X) (xs : List X) → ((ys : List X) → IsPermutation (xs ++ ys) (merge_by first xs ys)) → (ys : List X) → IsPermutation (x ∷ (xs ++ ys)) (merge_at first x xs (merge_by first xs) ys)
  has_both_at x xs rest [] = subst (λ l. IsPermutation (x ∷ l) (x ∷ xs)) (sym (append-nil xs)) (IsPermutation-refl (x ∷ xs))
  has_both_at x xs rest (y ∷ ys) = by (has_both_at x xs rest ys) (first x y)
    where
      by : IsPermutation (x ∷ (xs ++ ys)) (merge_at first x xs (merge_by first xs) ys) → (b : Bool)
          → IsPermutation (x ∷ (xs ++ y ∷ ys)) (cond b (x ∷ merge_by first xs (y ∷ ys)) (y ∷ merge_at first x xs (merge_by first xs) ys))
      by later true = IsPermutation-cons x _ _ (rest (y ∷ ys))
      by later false = IsPermutation-trans _ (y ∷ x ∷ (xs ++ ys)) _ (IsPermutation-middle (x ∷ xs) y ys) (IsPermutation-cons y _ _ later)

  -- whatever test picks the front element
  pub merge_has_both : (xs ys : List X) → IsPermutation (xs ++ ys) (merge_by first xs ys)
  merge_has_both [] ys = IsPermutation-refl ys
  merge_has_both (x ∷ xs) ys = has_both_at x xs (merge_has_both xs) ys

-- ---- in order

module _ {X : Type 0} (lt : X → X → Bool) where
  -- P holds of the first element, and no element is less than the one before it
  abbrev Rises : (X → Type 0) → List X → Type 0
  Rises P [] = ⊤
  Rises P (x ∷ xs) = P x × Rises (λ y. lt y x ≡ false) xs

  rises_from_ascends : (x : X) (xs : List X) → Ascends lt (x ∷ xs) → Rises (λ y. lt y x ≡ false) xs
  rises_from_ascends x [] up = tt
  rises_from_ascends x (y ∷ ys) up = (up.0.0, rises_from_ascends y ys up.1)

  rises : (xs : List X) → Ascends lt xs → Rises (λ y. ⊤) xs
  rises [] up = tt
  rises (x ∷ xs) up = (tt, rises_from_ascends x xs up)

  sorted : (P : X → Type 0) (xs : List X) → Rises P xs → IsSortedBy lt xs
  sorted P [] h k d _ within = absurd (omega (arith, within))
  sorted P (x ∷ []) h k d _ within = absurd (omega (arith, within))
  sorted P (x ∷ y ∷ ys) h zero d _ within = h.1.0
  sorted P (x ∷ y ∷ ys) h (suc k) d _ within =
      let e : suc k + 1 ≡ suc (k + 1) = omega arith in
      subst (λ n. lt (get_or (x ∷ y ∷ ys) n d) (get_or (y ∷ ys) k d) ≡ false) (sym e)
      (sorted (λ z. lt z x ≡ false) (y ∷ ys) h.1 k d (omega arith) (omega (arith, within)))

  module _ (first : X → X → Bool) (left : (x y : X) → first x y ≡ true → lt y x ≡ false) (right : (x y : X) → first x y ≡ false → lt x y ≡ false) where
    rises_at : (x : X) (xs : List X) (after : List X → List X) → Rises (λ y. lt y x ≡ false) xs
        → ((ys : List X) → Rises (λ y. lt y x ≡ false) ys → Rises (λ y. lt y x ≡ false) (after ys))
        → (ys : List X) (P : X → Type 0) → P x → Rises P ys → Rises P (merge_at first x xs after ys)
    rises_at x xs after rest go [] P p h = (p, rest)
    rises_at x xs after rest go (y ∷ ys) P p h =
        by (λ e. rises_at x xs after rest go ys (λ z. lt z y ≡ false) (right x y e) h.1) (first x y) refl
      where
        by : (first x y ≡ false → Rises (λ z. lt z y ≡ false) (merge_at first x xs after ys)) → (b : Bool) → first x y ≡ b
            → Rises P (cond b (x ∷ after (y ∷ ys)) (y ∷ merge_at first x xs after ys))
        by later true e = (p, go (y ∷ ys) (left x y e, h.1))
        by later false e = (h.0, later e)

    rises_merge : (xs ys : List X) (P : X → Type 0) → Rises P xs → Rises P ys → Rises P (merge_by first xs ys)
    rises_merge [] ys P a b = b
    rises_merge (x ∷ xs) ys P a b =
        rises_at x xs (merge_by first xs) a.1 (λ zs h. rises_merge xs zs (λ y. lt y x ≡ false) a.1 h) ys P a.0 b

    merge_rises : (xs ys : List X) → Ascends lt xs → Ascends lt ys → IsSortedBy lt (merge_by first xs ys)
    merge_rises xs ys a b = sorted (λ y. ⊤) (merge_by first xs ys) (rises_merge xs ys (λ y. ⊤) (rises xs a) (rises ys b))

-- ---- in order, and as they were

module _ {X : Type 0} (lt first : X → X → Bool) (o : IsStrictWeakOrder lt) (is_first : (x y : X) → first x y ≡ not (lt y x)) where
  not_less : (x y : X) → first x y ≡ true → lt y x ≡ false
  not_less x y h = not-true (lt y x) (sym (is_first x y) ∙ h)

  less : (x y : X) → first x y ≡ false → lt y x ≡ true
  less x y h = not-false (lt y x) (sym (is_first x y) ∙ h)

  pub merge_sorted : (xs ys : List X) → IsSortedBy lt xs → IsSortedBy lt ys → IsSortedBy lt (merge_by first xs ys)
  merge_sorted xs ys a b =
      merge_rises lt first not_less (λ x y h. o.one_way y x (less x y h)) xs ys (ascends_from_sorted lt o xs a) (ascends_from_sorted lt o ys b)

  -- what ties with an element that is less than x is itself less than x
  less_too : (z y x : X) → ties lt z y ≡ true → lt y x ≡ true → lt z x ≡ true
  less_too z y x tie below = by (lt z x) refl
    where
      other : (p q : Bool) → not p && not q ≡ true → q ≡ false
      other true q h = absurd (cc)
      other false true h = absurd (cc)
      other false false h = refl

      by : (b : Bool) → lt z x ≡ b → b ≡ true
      by true e = refl
      by false e = sym (o.chain y z x (other (lt z y) (lt y z) tie) e) ∙ below

  module _ (z : X) where
    keeps_at : (x : X) (xs : List X) → Ascends lt (x ∷ xs) → ((ys : List X) → filter (ties lt z) (merge_by first xs ys) ≡ filter (ties lt z) (xs ++ ys))
        → (ys : List X) → filter (ties lt z) (merge_at first x xs (merge_by first xs) ys) ≡ filter (ties lt z) (x ∷ (xs ++ ys))
    keeps_at x xs up rest [] = ap (λ l. filter (ties lt z) (x ∷ l)) (sym (append-nil xs))
    keeps_at x xs up rest (y ∷ ys) = by (keeps_at x xs up rest ys) (first x y) refl
      where
        kept : List X → List X
        kept = filter (ties lt z)

        later_list : List X
        later_list = merge_at first x xs (merge_by first xs) ys

        moved : kept later_list ≡ kept (x ∷ (xs ++ ys)) → first x y ≡ false → (b : Bool) → ties lt z y ≡ b → cond b (y ∷ kept later_list) (kept later_list) ≡ kept (x ∷ (xs ++ y ∷ ys))
        moved later e true f =
            let none : kept (x ∷ xs) ≡ [] = none_ties lt o z x (x ∷ xs) (less_too z y x f (less x y e)) (none_below_itself lt o x xs up) in
            ap (λ l. y ∷ l) (later ∙ filter-append (ties lt z) (x ∷ xs) ys ∙ ap (λ l. l ++ kept ys) none)
            ∙ ap (λ b. cond b (y ∷ kept ys) (kept ys)) (sym f) ∙ ap (λ l. l ++ kept (y ∷ ys)) (sym none) ∙ sym (filter-append (ties lt z) (x ∷ xs) (y ∷ ys))
        moved later e false f =
            later ∙ filter-append (ties lt z) (x ∷ xs) ys ∙ ap (λ b. kept (x ∷ xs) ++ cond b (y ∷ kept ys) (kept ys)) (sym f)
            ∙ sym (filter-append (ties lt z) (x ∷ xs) (y ∷ ys))

        by : kept later_list ≡ kept (x ∷ (xs ++ ys)) → (b : Bool) → first x y ≡ b
            → kept (cond b (x ∷ merge_by first xs (y ∷ ys)) (y ∷ later_list)) ≡ kept (x ∷ (xs ++ y ∷ ys))
        by later true e = ap (λ l. cond (ties lt z x) (x ∷ l) l) (rest (y ∷ ys))
        by later false e = moved later e (ties lt z y) refl

    keeps : (xs ys : List X) → Ascends lt xs → filter (ties lt z) (merge_by first xs ys) ≡ filter (ties lt z) (xs ++ ys)
    keeps [] ys up = refl
    keeps (x ∷ xs) ys up = keeps_at x xs up (λ zs. keeps xs zs up.1) ys

  -- where the left list ascends, elements that tie stand as in the joined list
  pub merge_stable : (xs ys : List X) → IsSortedBy lt xs → IsStableBy lt (xs ++ ys) (merge_by first xs ys)
  merge_stable xs ys up z = keeps z xs ys (ascends_from_sorted lt o xs up)

  -- a list that ascends, in which elements that tie stand as in the joined list, is the merge
  pub one_merge : (xs ys zs : List X) → IsSortedBy lt xs → IsSortedBy lt ys → IsSortedBy lt zs → IsStableBy lt (xs ++ ys) zs → merge_by first xs ys ≡ zs
  one_merge xs ys zs up_left up_right up stable =
      one_list lt o (merge_by first xs ys) zs (ascends_from_sorted lt o _ (merge_sorted xs ys up_left up_right)) (ascends_from_sorted lt o zs up)
      (λ z. merge_stable xs ys up_left z ∙ sym (stable z))

-- ---- by an order

module _ {X : Type 0} (cmp : X → X → Ordering) (total : IsTotalOrder cmp) where
  abbrev pub is_below : X → X → Bool
  is_below x y = is_lt (cmp x y)

  -- of two elements the left one comes first where it is at most the right one
  abbrev pub merged : List X → List X → List X
  merged = merge_by (λ x y. is_le (cmp x y))

  at_most : (x y : X) → is_le (cmp x y) ≡ not (is_below y x)
  at_most x y = by (cmp x y) ∙ ap (λ r. not (is_lt r)) (sym (total.antisymm y x))
    where
      by : (r : Ordering) → is_le r ≡ not (is_lt (ordering_reverse r))
      by Less = refl
      by Equal = refl
      by Greater = refl

  weak : IsStrictWeakOrder is_below
  weak = ranks_by total (λ x. x)

  pub merged_has_both : (xs ys : List X) → IsPermutation (xs ++ ys) (merged xs ys)
  merged_has_both = merge_has_both (λ x y. is_le (cmp x y))

  pub merged_sorted : (xs ys : List X) → IsSorted cmp xs → IsSorted cmp ys → IsSorted cmp (merged xs ys)
  merged_sorted = merge_sorted is_below (λ x y. is_le (cmp x y)) weak at_most

  pub merged_stable : (xs ys : List X) → IsSorted cmp xs → IsStable cmp (xs ++ ys) (merged xs ys)
  merged_stable = merge_stable is_below (λ x y. is_le (cmp x y)) weak at_most

  pub one_merged : (xs ys zs : List X) → IsSorted cmp xs → IsSorted cmp ys → IsSorted cmp zs → IsStable cmp (xs ++ ys) zs → merged xs ys ≡ zs
  one_merged = one_merge is_below (λ x y. is_le (cmp x y)) weak at_most
