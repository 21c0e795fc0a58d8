-- Files that are written one behind the other.
use Rattle.std.specs.Prelude.{ℕ, ◌+◌, ◌<◌, ◌≤◌, List, [], ◌∷◌}
use Rattle.outside_traits.specs.Runs.{Spans}
use Rattle.outside_traits.specs.View.{View, Now, Only}

-- from this number on each file holds its bytes after each crash now
abbrev pub AreWritten : View → ℕ → List (List ℕ) → Type 0
AreWritten v file [] = Unit {0}
AreWritten v file (bytes ∷ others) = Only bytes (Now v file) × AreWritten v (file + 1) others

-- an extent or a kept result may come to stand in this file, which isn't before that one
abbrev pub IsFrom : ℕ → ℕ → Type 0
IsFrom first file = (first ≤ file) × (file < 4294967296)

-- no other file is changed, nor what a crash since leaves of one
abbrev pub ChangesFrom : ℕ → View → View → Type 0
ChangesFrom first old new = Spans (IsFrom first) (λ image. Unit {0}) old new
