-- The length of items that are spelled one after the other.
use Rattle.std.proofs.Common.{◌≡◌, ℕ, zero, suc, ◌+◌, ◌<◌, ◌≤◌, List, [], ◌∷◌, length, get_or, take, length-append, arith}
use Rattle.std.specs.List.{flat_map}

-- the items before one, and that one, are no longer than all
pub len_next : {X : Type 0} (f : X → List ℕ) (xs : List X) (i : ℕ) (x : X) → i < length xs → x ≡ get_or xs i x
    → length (flat_map f (take i xs)) + length (f x) ≤ length (flat_map f xs)
len_next f [] i x lt e = absurd (omega arith)
len_next f (y ∷ ys) zero x lt e = rw e (omega (arith, length-append (f y) (flat_map f ys)))
len_next f (y ∷ ys) (suc i) x lt e =
    omega (arith, len_next f ys i x (omega arith) e, length-append (f y) (flat_map f (take i ys)), length-append (f y) (flat_map f ys))
