-- Elements of lists.
use Rattle.std.proofs.Common.{◌≡◌, refl, sym, ap, ◌∙◌, subst, ◌⊎◌, inl, inr, zero, suc, Bool, true, false, true≢false, cond, List, [], ◌∷◌, map, arith}
use Rattle.std.specs.List.{filter, Contains}

module _ {X : Type 0} where
  pub at_front : (x : X) (xs : List X) → Contains (x ∷ xs) x
  at_front x xs = (0, omega arith, refl)

  pub behind : (x : X) (xs : List X) (y : X) → Contains xs y → Contains (x ∷ xs) y
  behind x xs y h = (suc h.0, omega (arith, h.1), h.2)

  pub front_or_behind : (x : X) (xs : List X) (y : X) → Contains (x ∷ xs) y → (x ≡ y) ⊎ Contains xs y
  front_or_behind x xs y (zero, lt, is) = inl is
  front_or_behind x xs y (suc k, lt, is) = inr (k, omega (arith, lt), is)

  pub none_in_nothing : (y : X) → Contains [] y → ⊥
  none_in_nothing y h = absurd (omega (arith, h.1))

  module _ (p : X → Bool) where
    pub kept : (xs : List X) (y : X) → Contains xs y → p y ≡ true → Contains (filter p xs) y
    kept [] y h t = absurd (none_in_nothing y h)
    kept (x ∷ xs) y h t = by (p x) refl (λ at. kept xs y at t) (front_or_behind x xs y h)
      where
        by : (b : Bool) → p x ≡ b → (Contains xs y → Contains (filter p xs) y) → (x ≡ y) ⊎ Contains xs y → Contains (cond b (x ∷ filter p xs) (filter p xs)) y
        by true e rest (inl here) = subst (Contains (x ∷ filter p xs)) here (at_front x (filter p xs))
        by true e rest (inr at) = behind x (filter p xs) y (rest at)
        by false e rest (inl here) = absurd (true≢false (sym t ∙ ap p (sym here) ∙ e))
        by false e rest (inr at) = rest at

    pub was_there : (xs : List X) (y : X) → Contains (filter p xs) y → Contains xs y × (p y ≡ true)
    was_there [] y h = absurd (none_in_nothing y h)
    was_there (x ∷ xs) y h = by (p x) refl (was_there xs y) h
      where
        later : Contains xs y × (p y ≡ true) → Contains (x ∷ xs) y × (p y ≡ true)
        later both = (behind x xs y both.0, both.1)

        first : p x ≡ true → (Contains (filter p xs) y → Contains xs y × (p y ≡ true)) → (x ≡ y) ⊎ Contains (filter p xs) y → Contains (x ∷ xs) y × (p y ≡ true)
        first e rest (inl here) = (subst (Contains (x ∷ xs)) here (at_front x xs), ap p (sym here) ∙ e)
        first e rest (inr at) = later (rest at)

        by : (b : Bool) → p x ≡ b → (Contains (filter p xs) y → Contains xs y × (p y ≡ true)) → Contains (cond b (x ∷ filter p xs) (filter p xs)) y → Contains (x ∷ xs) y × (p y ≡ true)
        by true e rest at = first e rest (front_or_behind x (filter p xs) y at)
        by false e rest at = later (rest at)

module _ {X Y : Type 0} (f : X → Y) where
  pub mapped : (xs : List X) (x : X) → Contains xs x → Contains (map f xs) (f x)
  mapped [] x h = absurd (none_in_nothing x h)
  mapped (y ∷ ys) x h = by (mapped ys x) (front_or_behind y ys x h)
    where
      by : (Contains ys x → Contains (map f ys) (f x)) → (y ≡ x) ⊎ Contains ys x → Contains (f y ∷ map f ys) (f x)
      by rest (inl here) = subst (λ z. Contains (f y ∷ map f ys) (f z)) here (at_front (f y) (map f ys))
      by rest (inr at) = behind (f y) (map f ys) (f x) (rest at)

  pub mapped_from : (xs : List X) (y : Y) → Contains (map f xs) y → (x : X) × Contains xs x × (f x ≡ y)
  mapped_from [] y h = absurd (none_in_nothing y h)
  mapped_from (x ∷ xs) y h = by (mapped_from xs y) (front_or_behind (f x) (map f xs) y h)
    where
      by : (Contains (map f xs) y → (z : X) × Contains xs z × (f z ≡ y)) → (f x ≡ y) ⊎ Contains (map f xs) y → (z : X) × Contains (x ∷ xs) z × (f z ≡ y)
      by rest (inl here) = (x, at_front x xs, here)
      by rest (inr at) = let found = rest at in (found.0, behind x xs found.0 found.1, found.2)
