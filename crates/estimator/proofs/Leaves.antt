-- How many leaves a plan has, and the intervals of a left input's leaves.
use Rattle.std.proofs.Common.{◌≡◌, ℕ, ◌+◌, ◌-◌, min, arith, length-append}
use Rattle.std.proofs.lemmas.List.{take_min, drop_min}

pub both_within : (a b most : ℕ) → min a most + min b (most - min a most) ≡ min (a + b) most
both_within a b most = omega arith

pub ruleset of_two_inputs = (length-append, both_within)

pub ruleset of_sides = (take_min, drop_min)
