-- Worked sums: the definitions compute them.
use Rattle.std.specs.Prelude.{◌≡◌, refl, ℕ, ◌^◌, ◌-◌, [], ◌∷◌}
use Rattle.plan_core.specs.PlainPlan.{Scan, Distinct, Join}
use Rattle.estimator.specs.Cuts.{Cuts}
use Rattle.estimator.specs.Bytes.{Lengths, whole_bytes, new_bytes, capped}

-- a stream of an extent of 64 bytes and one of 32, and one of a single extent
abbrev lengths : Lengths
lengths = (64 ∷ 32 ∷ []) ∷ (85 ∷ []) ∷ []

pub one_leaf : whole_bytes lengths (Distinct (Scan 0)) (record { from = 0; to = 2 } ∷ []) ≡ 96
one_leaf = refl

-- both inputs of a join are the same stream, and each counts
pub self_join : whole_bytes lengths (Join (Scan 0) (Scan 0) ((0, 0) ∷ [])) (record { from = 0; to = 2 } ∷ record { from = 0; to = 1 } ∷ []) ≡ 160
self_join = refl

-- the right input alone has grown
pub grown_right : new_bytes lengths (Join (Scan 1) (Scan 0) ((0, 0) ∷ []))
    (record { from = 0; to = 1 } ∷ record { from = 0; to = 1 } ∷ []) (record { from = 0; to = 1 } ∷ record { from = 0; to = 2 } ∷ []) ≡ 32
grown_right = refl

-- two extents of the greatest length
pub greatest : capped (whole_bytes (((2 ^ 64 - 1) ∷ (2 ^ 64 - 1) ∷ []) ∷ []) (Scan 0) (record { from = 0; to = 2 } ∷ [])) ≡ 2 ^ 64 - 1
greatest = refl

-- ---- windows that don't begin at the first extent

-- a stream of three extents
abbrev three : Lengths
three = (64 ∷ 32 ∷ 16 ∷ []) ∷ []

abbrev window : ℕ → ℕ → Cuts
window from to = record { from = from; to = to } ∷ []

pub bytes_of_window : whole_bytes three (Scan 0) (window 1 3) ≡ 48
bytes_of_window = refl

-- the same beginning, and a later end
pub new_in_window : new_bytes three (Scan 0) (window 1 2) (window 1 3) ≡ 16
new_in_window = refl

-- the beginning has moved too: what it leaves out is no new byte
pub new_in_moved_window : new_bytes three (Scan 0) (window 0 2) (window 1 3) ≡ 16
new_in_moved_window = refl
