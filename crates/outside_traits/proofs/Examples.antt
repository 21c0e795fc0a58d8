-- The definitions at work, on small files.
use Rattle.std.proofs.Common.{◌≡◌, ℕ, [], ◌∷◌, refl, lit≤, arith}
use Rattle.std.specs.List.{IsDistinct}
use Rattle.std.proofs.lemmas.List.Elements.{All-from_recursion}
use Rattle.outside_traits.specs.Calls.{overlaid, Torn, Shortened}
use Rattle.outside_traits.specs.Removals.{IsStillThere, AreRemoved}
use Rattle.outside_traits.specs.View.{Counts, untold}

-- a gap is filled with zero bytes
behind_a_gap : overlaid (1 ∷ 2 ∷ []) 4 (9 ∷ []) ≡ 1 ∷ 2 ∷ 0 ∷ 0 ∷ 9 ∷ []
unfolding overlaid
behind_a_gap = refl

over_the_end : overlaid (1 ∷ 2 ∷ 3 ∷ []) 2 (8 ∷ 9 ∷ []) ≡ 1 ∷ 2 ∷ 8 ∷ 9 ∷ []
unfolding overlaid
over_the_end = refl

within : overlaid (1 ∷ 2 ∷ 3 ∷ 4 ∷ []) 1 (8 ∷ 9 ∷ []) ≡ 1 ∷ 8 ∷ 9 ∷ 4 ∷ []
unfolding overlaid
within = refl

-- a write of two bytes at the end may leave one, which may be any
torn_at_the_end : Torn 2 2 (1 ∷ 2 ∷ []) (1 ∷ 2 ∷ 7 ∷ [])
torn_at_the_end = record { before = refl; after = refl; no_shorter = lit≤ tt; no_longer = lit≤ tt }

-- but it leaves the byte in front of it
torn_keeps_the_front : Torn 2 2 (1 ∷ 2 ∷ []) (1 ∷ 5 ∷ 7 ∷ []) → ⊥
torn_keeps_the_front torn = let front = torn.before in cc

-- a cut to nothing may leave any bytes of lengths between, since what stood past the new end may be anything
cut_to_nothing : Shortened 0 (1 ∷ 2 ∷ 3 ∷ []) (9 ∷ 2 ∷ [])
cut_to_nothing = record { front = refl; no_shorter = lit≤ tt; no_longer = lit≤ tt }

cut_keeps_the_front : Shortened 1 (1 ∷ 2 ∷ 3 ∷ []) (9 ∷ 2 ∷ []) → ⊥
cut_keeps_the_front cut = let front = cut.front in cc

-- two files don't stay after one removal that failed
abbrev failed_removals : ℕ → Counts
failed_removals n = record { reads = 0; writes = 0; removes = n; taken = 0 }

two_after_one_failure : AreRemoved (λ file. Unit {0}) untold (failed_removals 0) (failed_removals 1) → ⊥
unfolding IsDistinct
two_after_one_failure removed =
    let all = removed (3 ∷ 5 ∷ []) ((refl, tt), (tt, tt))
    (All-from_recursion (IsStillThere (λ file. Unit {0}) untold) (3 ∷ 5 ∷ []) ((tt, refl), ((tt, refl), tt))) in
    omega (arith, all)
