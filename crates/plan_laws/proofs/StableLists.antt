-- Two lists that don't fall, and in which elements that tie stand alike, are one.
use Rattle.std.proofs.Common.{◌≡◌, refl, sym, ap, ◌∙◌, subst, ℕ, zero, suc, ◌+◌, ◌<◌, ◌≤◌, Bool, true, false, cond, not, ◌&&◌, List, [], ◌∷◌, length, get_or, arith}
use Rattle.std.specs.Bool.{⊤}
use Rattle.std.specs.Cmp.{IsStrictWeakOrder}
use Rattle.std.specs.List.{filter, AllByRecursion}
use Rattle.std.specs.List.Sorted.{IsSortedBy, ties}
use Rattle.std.proofs.lemmas.List.Sorted.{sorted_far}

module _ {X : Type 0} (lt : X → X → Bool) where
  -- no element of ys is less than x
  abbrev pub NoneBelow : X → List X → Type 0
  NoneBelow x ys = AllByRecursion (λ y. lt y x ≡ false) ys

  -- no element is less than one before it
  abbrev pub Ascends : List X → Type 0
  Ascends [] = ⊤
  Ascends (x ∷ xs) = NoneBelow x xs × Ascends xs

  none_below_of : (x : X) (xs : List X) → ((k : ℕ) → k < length xs → lt (get_or xs k x) x ≡ false) → NoneBelow x xs
  none_below_of x [] h = tt
  none_below_of x (y ∷ ys) h = (h 0 (omega arith), none_below_of x ys (λ k p. h (suc k) (omega (arith, p))))

  ascends_of : (xs : List X) → ((i j : ℕ) (d : X) → i ≤ j → j < length xs → lt (get_or xs j d) (get_or xs i d) ≡ false) → Ascends xs
  ascends_of [] h = tt
  ascends_of (x ∷ xs) h = (
    none_below_of x xs (λ k p. h 0 (suc k) x (omega arith) (omega (arith, p))),
    ascends_of xs (λ i j d p q. h (suc i) (suc j) d (omega (arith, p)) (omega (arith, q))),
  )

  pub ascends_from_sorted : IsStrictWeakOrder lt → (xs : List X) → IsSortedBy lt xs → Ascends xs
  ascends_from_sorted o xs h = ascends_of xs (sorted_far lt o xs h)

  pub sorted_from_ascends : (xs : List X) → Ascends xs → IsSortedBy lt xs
  sorted_from_ascends [] h k d _ within = absurd (omega (arith, within))
  sorted_from_ascends (x ∷ []) h k d _ within = absurd (omega (arith, within))
  sorted_from_ascends (x ∷ y ∷ ys) h zero d _ within = h.0.0
  sorted_from_ascends (x ∷ y ∷ ys) h (suc k) d _ within =
      let e : suc k + 1 ≡ suc (k + 1) = omega arith in
      subst (λ n. lt (get_or (x ∷ y ∷ ys) n d) (get_or (y ∷ ys) k d) ≡ false) (sym e) (sorted_from_ascends (y ∷ ys) h.1 k d (omega arith) (omega (arith, within)))

  module _ (o : IsStrictWeakOrder lt) where
    pub not_less_itself : (x : X) → lt x x ≡ false
    not_less_itself x = by (lt x x) (o.one_way x x)
      where
        by : (b : Bool) → (b ≡ true → b ≡ false) → b ≡ false
        by true h = h refl
        by false h = refl

    pub ties_itself : (x : X) → ties lt x x ≡ true
    ties_itself x = ap (λ b. not b && not b) (not_less_itself x)

    -- z is less than y, of which w is none below
    less_too : (z y w : X) → lt z y ≡ true → lt w y ≡ false → lt z w ≡ true
    less_too z y w less none = by (lt z w) refl
      where
        by : (b : Bool) → lt z w ≡ b → b ≡ true
        by true e = refl
        by false e = sym (o.chain z w y e none) ∙ less

    -- nothing of a list that ascends from y ties with what is less than y
    pub none_ties : (z y : X) (ws : List X) → lt z y ≡ true → NoneBelow y ws → filter (ties lt z) ws ≡ []
    none_ties z y [] less none = refl
    none_ties z y (w ∷ ws) less none =
        ap (λ b. cond (not b && not (lt w z)) (w ∷ filter (ties lt z) ws) (filter (ties lt z) ws)) (less_too z y w less none.0) ∙ none_ties z y ws less none.1

    pub none_below_itself : (y : X) (ys : List X) → Ascends (y ∷ ys) → NoneBelow y (y ∷ ys)
    none_below_itself y ys h = (not_less_itself y, h.0)

    -- the first element stands in front of those that tie with it
    first_of_ties : (y : X) (ys : List X) → filter (ties lt y) (y ∷ ys) ≡ y ∷ filter (ties lt y) ys
    first_of_ties y ys = ap (λ b. cond b (y ∷ filter (ties lt y) ys) (filter (ties lt y) ys)) (ties_itself y)

    nothing_else : (y : X) (ys zs : List X) → y ∷ ys ≡ zs → zs ≡ [] → ⊥
    nothing_else y ys zs p q = let r : y ∷ ys ≡ [] = p ∙ q in cc

    rest_alike : (b : Bool) (y : X) (us vs : List X) → cond b (y ∷ us) us ≡ cond b (y ∷ vs) vs → us ≡ vs
    rest_alike true y us vs h = cc
    rest_alike false y us vs h = h

    pub one_list : (ys zs : List X) → Ascends ys → Ascends zs → ((x : X) → filter (ties lt x) ys ≡ filter (ties lt x) zs) → ys ≡ zs
    one_list [] [] a b same = refl
    one_list [] (z ∷ zs) a b same = absurd (nothing_else z _ _ (sym (first_of_ties z zs)) (sym (same z)))
    one_list (y ∷ ys) [] a b same = absurd (nothing_else y _ _ (sym (first_of_ties y ys)) (same y))
    one_list (y ∷ ys) (z ∷ zs) a b same = by (one_list ys zs a.1 b.1) (lt y z) (lt z y) refl refl
      where
        by : (((x : X) → filter (ties lt x) ys ≡ filter (ties lt x) zs) → ys ≡ zs) → (p q : Bool) → lt y z ≡ p → lt z y ≡ q → y ∷ ys ≡ z ∷ zs
        by rest true q e f = absurd (nothing_else y _ _ (sym (first_of_ties y ys) ∙ same y) (none_ties y z (z ∷ zs) e (none_below_itself z zs b)))
        by rest false true e f = absurd (nothing_else z _ _ (sym (first_of_ties z zs) ∙ sym (same z)) (none_ties z y (y ∷ ys) f (none_below_itself y ys a)))
        by rest false false e f =
            let tie : ties lt y z ≡ true = ap (λ b. not b && not (lt z y)) e ∙ ap (λ b. true && not b) f in
            let fronts : y ∷ filter (ties lt y) ys ≡ z ∷ filter (ties lt y) zs =
            sym (first_of_ties y ys) ∙ same y ∙ ap (λ b. cond b (z ∷ filter (ties lt y) zs) (filter (ties lt y) zs)) tie in
            let head : y ≡ z = cc in
            let whole : (x : X) → filter (ties lt x) (y ∷ ys) ≡ filter (ties lt x) (y ∷ zs) =
            λ x. same x ∙ ap (λ w. filter (ties lt x) (w ∷ zs)) (sym head) in
            let tail : ys ≡ zs = rest (λ x. rest_alike (ties lt x y) y _ _ (whole x)) in
            ap (λ w. w ∷ ys) head ∙ ap (λ l. z ∷ l) tail
