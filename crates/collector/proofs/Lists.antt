-- What lists contain, and lists that stand for one another.
use Rattle.std.proofs.Common.{◌≡◌, refl, sym, ap, ◌∙◌, subst, ℕ, ◌+◌, ◌<◌, ◌⊎◌, inl, inr, Bool, true, false, cond, List, [], ◌∷◌, ◌++◌, map, take, length, get_or, set, arith}
use Rattle.std.specs.List.{Contains, filter, swap}
use Rattle.std.specs.List.Sorted.{IsPermutation, apply_swaps, SwapsInRange}
use Rattle.std.proofs.Math.ListN.{get_or-map}
use Rattle.std.proofs.lemmas.List.{map-append, map-set, append-nil, length-map}
use Rattle.std.proofs.lemmas.List.Elements.{Contains-append_left, Contains-append_right, Contains-append_cases, Contains-push, Contains-push_cases, filter_more}

module _ {X : Type 0} where
  pub none : (x : X) → Contains [] x → ⊥
  none x has = let low : has.0 < 0 = has.1 in absurd (omega (arith, low))

  pub first_in : (x : X) (xs : List X) → Contains (x ∷ xs) x
  first_in x xs = Contains-append_left (x ∷ []) xs x (Contains-push [] x)

  pub behind_in : (x : X) (xs : List X) (y : X) → Contains xs y → Contains (x ∷ xs) y
  behind_in x xs y has = Contains-append_right (x ∷ []) xs y has

  pub in_cases : (x : X) (xs : List X) (y : X) → Contains (x ∷ xs) y → (x ≡ y) ⊎ Contains xs y
  in_cases x xs y has = elim (Contains-append_cases (x ∷ []) xs y has) [
    | inl one ↦ elim (Contains-push_cases [] x y one) [ inl empty ↦ absurd (none y empty) | inr is ↦ inl is ]
    | inr more ↦ inr more
  ]

  -- a list that isn't empty ends in an element
  pub ends : (x : X) (xs : List X) → (others : List X) × (last : X) × (x ∷ xs ≡ others ++ last ∷ [])
  ends x [] = ([], x, refl)
  ends x (y ∷ ys) = let r = ends y ys in (x ∷ r.0, r.1, ap (λ l. x ∷ l) r.2)

  pub ends_in : (xs others : List X) (last : X) → xs ≡ others ++ last ∷ [] → Contains xs last
  ends_in xs others last is = subst (λ l. Contains l last) (sym is) (Contains-push others last)

  pub no_end : (others : List X) (last : X) → [] ≡ others ++ last ∷ [] → ⊥
  no_end [] last is = cc
  no_end (o ∷ os) last is = cc

-- ---- a list that stands for another is moved with it

module _ {X Y : Type 0} (f : X → Y) where
  swap_map : (xs : List X) (i j : ℕ) → map f (swap xs i j) ≡ swap (map f xs) i j
  swap_map [] i j = refl
  swap_map (d ∷ ys) i j =
      let xs = d ∷ ys in
      let x = get_or xs j d in
      let y = get_or xs i d in
      map-set f (set xs i x) j y ∙ ap (λ l. set l j (f y)) (map-set f xs i x)
      ∙ ap (λ z. set (set (map f xs) i z) j (f y)) (sym (get_or-map f xs j d))
      ∙ ap (λ z. set (set (map f xs) i (get_or (map f xs) j (f d))) j z) (sym (get_or-map f xs i d))

  pub swaps_map : (xs : List X) (moves : List (ℕ × ℕ)) → map f (apply_swaps xs moves) ≡ apply_swaps (map f xs) moves
  swaps_map xs [] = refl
  swaps_map xs (p ∷ ps) = swap_map (apply_swaps xs ps) p.0 p.1 ∙ ap (λ l. swap l p.0 p.1) (swaps_map xs ps)

pub moved_alike : {X Y Z : Type 0} (f : X → Z) (g : Y → Z) (xs moved : List X) (ys : List Y) → map f xs ≡ map g ys → IsPermutation xs moved
    → (too : List Y) × IsPermutation ys too × (map f moved ≡ map g too)
moved_alike f g xs moved ys alike p =
    let long : length xs ≡ length ys = sym (length-map xs f) ∙ ap length alike ∙ length-map ys g in (
      apply_swaps ys p.moves,
      record { moves = p.moves; below = subst (λ n. SwapsInRange n p.moves) long p.below; is = refl },
      ap (map f) p.is ∙ swaps_map f xs p.moves ∙ ap (λ l. apply_swaps l p.moves) alike ∙ sym (swaps_map g ys p.moves),
    )

-- ---- one element more of those that pass

module _ {X Y Z : Type 0} (f : X → Z) (g : Y → Z) (p : Y → Bool) (xs : List X) (ys : List Y) (i : ℕ) (y : Y) (low : i < length ys) (is : y ≡ get_or ys i y) where
  one_more : filter p (take (i + 1) ys) ≡ filter p (take i ys) ++ cond (p y) (y ∷ []) []
  one_more = filter_more p ys i y low ∙ ap (λ z. filter p (take i ys) ++ cond (p z) (z ∷ []) []) (sym is)

  pub passes_next : (x : X) → p y ≡ true → f x ≡ g y → map f xs ≡ map g (filter p (take i ys)) → map f (xs ++ x ∷ []) ≡ map g (filter p (take (i + 1) ys))
  passes_next x pass same so_far =
      let more = one_more ∙ ap (λ b. filter p (take i ys) ++ cond b (y ∷ []) []) pass in
      map-append f xs (x ∷ []) ∙ ap (λ l. l ++ f x ∷ []) so_far ∙ ap (λ z. map g (filter p (take i ys)) ++ z ∷ []) same
      ∙ sym (ap (map g) more ∙ map-append g (filter p (take i ys)) (y ∷ []))

  pub fails_next : p y ≡ false → map f xs ≡ map g (filter p (take i ys)) → map f xs ≡ map g (filter p (take (i + 1) ys))
  fails_next fail so_far =
      so_far ∙ sym (ap (map g) (one_more ∙ ap (λ b. filter p (take i ys) ++ cond b (y ∷ []) []) fail ∙ append-nil (filter p (take i ys))))
