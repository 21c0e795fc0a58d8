-- Numbers that rise.
use Rattle.std.proofs.Common.{◌≡◌, refl, subst, ℕ, zero, suc, ◌+◌, ◌<◌, List, [], ◌∷◌, ◌++◌, length, slice_index, arith}
use Rattle.std.specs.List.{AllByRecursion}
use Rattle.std.specs.List.Sorted.{IsStrictlyIncreasing}
use Rattle.catalog_core.specs.OwnFiles.{IsGiven}

-- each is above the one before it, the first above `low`, and all are below `next`
abbrev pub RiseBelow : ℕ → ℕ → List ℕ → Type 0
RiseBelow next low [] = Unit {0}
RiseBelow next low (x ∷ xs) = (low < x) × (x < next) × RiseBelow next x xs

-- the last of them, or `low` where there is none
abbrev pub IsLast : ℕ → ℕ → List ℕ → Type 0
IsLast last low [] = last ≡ low
IsLast last low (x ∷ xs) = IsLast last x xs

pub rise-more : (next low last x : ℕ) (xs : List ℕ) → RiseBelow next low xs → IsLast last low xs → last < x → x < next → RiseBelow next low (xs ++ x ∷ [])
rise-more next low last x [] rise is above below = (omega (arith, is, above), below, tt)
rise-more next low last x (y ∷ ys) rise is above below = (rise.0, rise.1, rise-more next y last x ys rise.2 is above below)

pub last-more : (low x : ℕ) (xs : List ℕ) → IsLast x low (xs ++ x ∷ [])
last-more low x [] = refl
last-more low x (y ∷ ys) = last-more y x ys

-- one that doesn't rise above the last one before it, or is too great
pub no-rise : (next low last x : ℕ) (xs ys : List ℕ) → IsLast last low xs → (last < x → x < next → ⊥) → RiseBelow next low (xs ++ x ∷ ys) → ⊥
no-rise next low last x [] ys is wrong rise = wrong (omega (arith, is, rise.0)) rise.1
no-rise next low last x (y ∷ zs) ys is wrong rise = no-rise next y last x zs ys is wrong rise.2

-- ---- the same by places

first-above : (x : ℕ) (xs : List ℕ) → IsStrictlyIncreasing (x ∷ xs) → 0 < length xs → x < slice_index xs 0
first-above x xs rise some = rise 0 (omega (arith, some))

tail-rises : (x : ℕ) (xs : List ℕ) → IsStrictlyIncreasing (x ∷ xs) → IsStrictlyIncreasing xs
tail-rises x xs rise k more = subst (λ n. slice_index xs k < slice_index (x ∷ xs) n) {x = suc k + 1} {y = suc (k + 1)} (omega arith) (rise (suc k) (omega (arith, more)))

rise-from : (next low : ℕ) (xs : List ℕ) → (0 < length xs → low < slice_index xs 0) → IsStrictlyIncreasing xs → AllByRecursion (IsGiven next) xs → RiseBelow next low xs
rise-from next low [] starts rise given = tt
rise-from next low (x ∷ xs) starts rise given = (starts (omega arith), given.0.1, rise-from next x xs (first-above x xs rise) (tail-rises x xs rise) given.1)

rise-by-places : (next low : ℕ) (xs : List ℕ) → RiseBelow next low xs → IsStrictlyIncreasing xs
rise-by-places next low [] rise k more = absurd (omega (arith, more))
rise-by-places next low (x ∷ []) rise k more = absurd (omega (arith, more))
rise-by-places next low (x ∷ y ∷ ys) rise zero more = rise.2.0
rise-by-places next low (x ∷ y ∷ ys) rise (suc k) more =
    subst (λ n. slice_index (y ∷ ys) k < slice_index (x ∷ y ∷ ys) n) {x = suc (k + 1)} {y = suc k + 1} (omega arith) (rise-by-places next x (y ∷ ys) rise.2 k (omega (arith, more)))

given-of : (next low : ℕ) (xs : List ℕ) → RiseBelow next low xs → AllByRecursion (IsGiven next) xs
given-of next low [] rise = tt
given-of next low (x ∷ xs) rise = ((omega (arith, rise.0), rise.1), given-of next x xs rise.2)

pub rise-is : (next : ℕ) (xs : List ℕ) → RiseBelow next 0 xs → IsStrictlyIncreasing xs × AllByRecursion (IsGiven next) xs
rise-is next xs rise = (rise-by-places next 0 xs rise, given-of next 0 xs rise)

pub rise-of : (next : ℕ) (xs : List ℕ) → IsStrictlyIncreasing xs × AllByRecursion (IsGiven next) xs → RiseBelow next 0 xs
rise-of next [] is = tt
rise-of next (x ∷ xs) is = rise-from next 0 (x ∷ xs) (λ _. is.1.0.0) is.0 is.1
