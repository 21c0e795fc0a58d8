-- The bounds within which groups are merged and finished: those of a file, and averages in i64.
use Rattle.std.specs.Prelude.{◌≢◌, pos, List, All, AllPairs, FitsSigned}
use Rattle.std.specs.Int.{w64}
use Rattle.scalar_ops.specs.Division.{floor_div}
use Rattle.row_blob.specs.declared.kept.Acc.{Acc}
use Rattle.row_blob.specs.declared.kept.Acc.TheVariants as acc
use Rattle.row_blob.specs.declared.kept.GroupRow.{GroupRow}
use Rattle.row_blob.specs.Kept.{AreEach, IsCount, IsSum, keys_of as group_keys}
use Rattle.plan_core.specs.declared.agg.Agg.{Agg}
use Rattle.plan_core.specs.declared.agg.Agg.TheVariants.{Count, Sum, Min, Max, First, Last, Avg}
use Rattle.plan_core.specs.Aggregate.{number_of}
use Rattle.plan_core.specs.Columns.{Row, column_of}

-- an accumulator of the aggregate: a count from 1 to 2^32 - 1, a sum from -2^95 to 2^95
abbrev pub IsAccOf : Agg → Acc → Type 0
IsAccOf Count (acc.Count n) = IsCount n
IsAccOf (Sum column) (acc.Sum s) = IsSum s
IsAccOf (Min column) (acc.Pick v) = Unit {0}
IsAccOf (Max column) (acc.Pick v) = Unit {0}
IsAccOf (First column) (acc.Pick v) = Unit {0}
IsAccOf (Last column) (acc.Pick v) = Unit {0}
IsAccOf (Avg column) (acc.Avg s n) = IsSum s × IsCount n
IsAccOf _ _ = ⊥

-- the keys differ, and each group has one accumulator for each aggregate
abbrev pub AreGroups : List Agg → List GroupRow → Type 0
AreGroups aggs groups = AllPairs (λ a b. a ≢ b) (group_keys groups) × All (λ group. AreEach IsAccOf aggs group.accs) groups

-- an average is in i64, as that of numbers in i64 is
abbrev pub HasAverage : Acc → Type 0
HasAverage (acc.Avg s n) = FitsSigned w64 (floor_div s (pos n))
HasAverage _ = Unit {0}

abbrev pub HaveAverages : List GroupRow → Type 0
HaveAverages groups = All (λ group. All HasAverage group.accs) groups

-- the number of the row that the aggregate adds up is in i64
abbrev pub HasNumber : Agg → Row → Type 0
HasNumber (Sum column) row = FitsSigned w64 (number_of (column_of row column))
HasNumber (Avg column) row = FitsSigned w64 (number_of (column_of row column))
HasNumber _ row = Unit {0}
