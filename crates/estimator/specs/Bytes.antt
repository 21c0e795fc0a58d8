-- The bytes of the extent files under a plan at a cut. What is estimated by them is this project's own.
use Rattle.std.specs.Prelude.{ℕ, ◌+◌, ◌-◌, ◌^◌, ◌≤◌, min, length, List, [], ◌∷◌, sum, slice_range, slice_get, unwrap_or}
use Rattle.rows_core.specs.declared.cut.Cut.{Cut}
use Rattle.plan_core.specs.PlainPlan.{PlainPlan, leaves}
use Rattle.estimator.specs.Cuts.{Cuts, added_cuts}

-- the lengths of each stream's extents
abbrev pub Lengths : Type 0
Lengths = List (List ℕ)

abbrev pub lengths_at : Lengths → ℕ → List ℕ
lengths_at lengths stream = unwrap_or (slice_get lengths stream) []

-- the bytes of a stream's extents in an interval
abbrev pub interval_bytes : List ℕ → Cut → ℕ
interval_bytes lens cut = sum (slice_range lens cut.from cut.to)

abbrev pub leaf_bytes : Lengths → List ℕ → Cuts → ℕ
leaf_bytes lengths (stream ∷ streams) (cut ∷ cuts) = interval_bytes (lengths_at lengths stream) cut + leaf_bytes lengths streams cuts
leaf_bytes lengths _ _ = 0

-- of the extents of all leaves; each leaf counts by itself
abbrev pub whole_bytes : Lengths → PlainPlan → Cuts → ℕ
whole_bytes lengths plan cuts = leaf_bytes lengths (leaves plan) cuts

-- of the new extents alone
abbrev pub new_bytes : Lengths → PlainPlan → Cuts → Cuts → ℕ
new_bytes lengths plan old new = whole_bytes lengths plan (added_cuts old new)

-- each interval begins at or before its end, which is at or before the end of its stream's extents
abbrev pub AreInStreams : Lengths → List ℕ → Cuts → Type 0
AreInStreams lengths [] [] = Unit {0}
AreInStreams lengths (stream ∷ streams) (cut ∷ cuts) =
    (cut.from ≤ cut.to) × (cut.to ≤ length (lengths_at lengths stream)) × AreInStreams lengths streams cuts
AreInStreams lengths _ _ = ⊥

-- the cut has an interval for each leaf, within the extents that are there
abbrev pub IsCutOf : Lengths → PlainPlan → Cuts → Type 0
IsCutOf lengths plan cuts = AreInStreams lengths (leaves plan) cuts

-- cut at the greatest u64
abbrev pub capped : ℕ → ℕ
capped n = min n (2 ^ 64 - 1)
