-- How many files are left, and how much is kept.
use Rattle.std.proofs.Common.{◌≡◌, ℕ, ◌+◌, ◌^◌, ◌-◌, min, List, ◌∷◌, length, length-append, arith}
use Rattle.estimator.specs.Bytes.{capped}
use Rattle.rewrite_core.proofs.FileLemmas.{length_of_extents}
use Rattle.executor.specs.declared.part.Part.{Part}
use Rattle.executor.specs.Progress.{files_left, left_in, held_in_part, held_in}

pub left_further : (p : Part) (parts : List Part) (a b : ℕ) → a ≡ length (files_left p) → b ≡ capped (length (left_in parts))
    → min (a + b) (2 ^ 64 - 1) ≡ capped (length (left_in (p ∷ parts)))
left_further p parts a b first rest = let both = length-append (files_left p) (left_in parts) in omega arith

pub held_further : (p : Part) (parts : List Part) (a b : ℕ) → a ≡ held_in_part p → b ≡ capped (held_in parts)
    → min (a + b) (2 ^ 64 - 1) ≡ capped (held_in (p ∷ parts))
held_further p parts a b first rest = omega arith
