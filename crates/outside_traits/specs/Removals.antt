-- Which of the files that were to go are still there.
use Rattle.std.specs.Prelude.{◌≡◌, ℕ, ◌==◌, ◌+◌, ◌-◌, ◌^◌, ◌≤◌, min, true, List, length}
use Rattle.std.specs.List.{All, IsDistinct}
use Rattle.outside_traits.specs.View.{View, Counts}

-- the file was to go, and is still there
abbrev pub IsStillThere : (ℕ → Type 0) → View → ℕ → Type 0
IsStillThere went v file = went file × (v.there file ≡ true)

-- No more of the files that were to go are still there than removals failed since, unless their count stands at its last value.
abbrev pub AreRemoved : (ℕ → Type 0) → View → Counts → Counts → Type 0
AreRemoved went v old new = (files : List ℕ) → IsDistinct (λ a b. a == b) files → All (IsStillThere went v) files
    → min (old.removes + length files) (2 ^ 64 - 1) ≤ new.removes
