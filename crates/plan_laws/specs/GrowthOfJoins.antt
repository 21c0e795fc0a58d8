-- The rows of a join whose lists have grown: how they come from the rows that are kept and from those that are new.
use Rattle.std.specs.Prelude.{ℕ, ◌<◌, ◌≤◌, Bool, List, ◌++◌, nat_le, nat_lt, All, IsPermutation}
use Rattle.std.specs.List.Sorted.{IsSortedBy, IsStableBy}
use Rattle.plan_laws.specs.Merge.{merge_by}
use Rattle.row_blob.specs.declared.kept.TaggedRow.{TaggedRow}

-- a stands at an earlier left row than b
abbrev pub is_earlier : TaggedRow → TaggedRow → Bool
is_earlier a b = nat_lt a.left b.left

-- the positions of the left rows don't fall
abbrev pub AscendsByPosition : List TaggedRow → Type 0
AscendsByPosition = IsSortedBy is_earlier

-- `merged` has the rows of both lists, ascends by position, and has rows of one position in the order that they have in
-- the old list and then the new one
pub record IsMergedByPosition (old new merged : List TaggedRow) : Type 0 where
  pub permutation : IsPermutation (old ++ new) merged
  pub ascends : AscendsByPosition merged
  pub stable : IsStableBy is_earlier (old ++ new) merged

-- the one list that is so: of the two rows in front the earlier one, and the old one where neither is earlier
abbrev pub merge_by_position : List TaggedRow → List TaggedRow → List TaggedRow
merge_by_position = merge_by (λ old new. nat_le old.left new.left)

-- each position is at least `low` and below `high`
abbrev pub ArePositionsWithin : ℕ → ℕ → List TaggedRow → Type 0
ArePositionsWithin low high = All (λ tagged. (low ≤ tagged.left) × (tagged.left < high))
