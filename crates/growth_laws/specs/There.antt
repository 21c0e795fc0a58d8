-- When the files that a rewriting names are there.
use Rattle.std.specs.Prelude.{◌≡◌, ℕ, ◌≤◌, ◌<◌, List, [], ◌∷◌, Contains}
use Rattle.plan_core.specs.PlainPlan.{PlainPlan, leaves}
use Rattle.estimator.specs.Cuts.{Cuts}
use Rattle.rewrite_core.specs.Entries.{Entry, Entries}
use Rattle.rewrite_core.specs.Files.{FileName, Extent, Result}

-- how many extents each stream has
abbrev pub ExtentCounts : Type 0
ExtentCounts = ℕ → ℕ

-- the stream has such an extent, or an entry has the id
abbrev pub IsThere : Entries → ExtentCounts → FileName → Type 0
IsThere entries counts (Extent stream number) = number < counts stream
IsThere entries counts (Result id) = (entry : Entry) × Contains entries entry × (entry.id ≡ id)

-- one interval for each leaf's stream, which ends within its extents
abbrev pub EndWithin : ExtentCounts → List ℕ → Cuts → Type 0
EndWithin counts [] [] = Unit {0}
EndWithin counts (stream ∷ streams) (cut ∷ cuts) = (cut.to ≤ counts stream) × EndWithin counts streams cuts
EndWithin counts _ _ = ⊥

abbrev pub IsWithin : ExtentCounts → PlainPlan → Cuts → Type 0
IsWithin counts plan cuts = EndWithin counts (leaves plan) cuts
