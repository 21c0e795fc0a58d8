-- One append after another.
use Prim.Native.Nat.{zero, suc}
use Rattle.std.proofs.Common.{◌≡◌, refl, ap, ◌∙◌, ℕ, ◌+◌, ◌<◌, ◌≤◌, List, [], ◌∷◌, ◌++◌, length, take, get_or, Result, Ok, Err, arith, length-append}
use Rattle.std.specs.List.{flat_map}
use Rattle.std.specs.Result.{OnErr}

take-front : {A : Type 0} (old new more : List A) (n : ℕ) → take n new ≡ old ++ more → take (length old) new ≡ old
take-front [] new more n e = refl
take-front (o ∷ os) [] more zero e = cc
take-front (o ∷ os) [] more (suc n) e = cc
take-front (o ∷ os) (y ∷ ys) more zero e = cc
take-front (o ∷ os) (y ∷ ys) more (suc n) e =
    let same : y ≡ o = cc in
    let rest = take-front os ys more n cc in
    λ i. same i ∷ rest i

-- what stands at the front of a longer list stands there
pub start-longer : {A : Type 0} (old cur new more : List A) (m n : ℕ) → take n new ≡ cur → cur ≡ old ++ more → m ≡ length old → take m new ≡ old
start-longer old cur new more m n start longer at_m = ap (λ k. take k new) at_m ∙ take-front old new more n (start ∙ longer)

pub OnErr-always : {T E P : Type 0} (r : Result T E) → P → OnErr r P
OnErr-always (Ok x) p = tt
OnErr-always (Err e) p = p

-- the front and one more are within the whole
pub length-flat_map-front : {A B : Type 0} (f : A → List B) (xs : List A) (i : ℕ) (d : A) → i < length xs →
    length (flat_map f (take i xs)) + length (f (get_or xs i d)) ≤ length (flat_map f xs)
length-flat_map-front f [] i d h = absurd (omega arith)
length-flat_map-front f (x ∷ xs) zero d h = omega (arith, length-append (f x) (flat_map f xs))
length-flat_map-front f (x ∷ xs) (suc i) d h =
    let small : i < length xs = omega arith in
    omega (arith, length-append (f x) (flat_map f xs), length-append (f x) (flat_map f (take i xs)), length-flat_map-front f xs i d small)
