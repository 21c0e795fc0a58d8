-- How want of memory is counted, and what a call that failed leaves of a store in memory.
use Rattle.std.specs.Prelude.{◌≡◌, ◌⊎◌, ℕ, ◌+◌, ◌-◌, ◌^◌, min, Bool, List, IsTrue}
use Rattle.mem_outside.specs.Shown.{Shown}
use Rattle.mem_outside.specs.Outcomes.{state_in}

-- a count after one more: it stands still at the greatest u64
abbrev pub one_more : ℕ → ℕ
one_more count = min (count + 1) (2 ^ 64 - 1)

-- A call that was to fail leaves its file after the failed change, at the next moment. Any other one found no memory, which is
-- counted once, and leaves all as it was.
abbrev pub LeavesFailed : Bool → (Shown → Shown) → ℕ → List Shown → List Shown → ℕ → ℕ → ℕ → ℕ → Type 0
LeavesFailed fails change file old new moment moment' refused refused' =
    (IsTrue fails × (state_in new file ≡ change (state_in old file)) × (moment' ≡ moment + 1) × (refused' ≡ refused))
    ⊎ ((new ≡ old) × (moment' ≡ moment) × (refused' ≡ one_more refused))
