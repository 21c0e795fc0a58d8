-- The first element of a list to which something is left.
use Rattle.std.specs.Prelude.{◌≡◌, ◌≢◌, ℕ, zero, suc, List, [], ◌∷◌}

-- to the element at this place something is left, and to none before it
abbrev pub IsFirst : {A B : Type 0} → (A → List B) → List A → ℕ → Type 0
IsFirst left [] at = ⊥
IsFirst left (x ∷ xs) zero = left x ≢ []
IsFirst left (x ∷ xs) (suc at) = (left x ≡ []) × IsFirst left xs at
