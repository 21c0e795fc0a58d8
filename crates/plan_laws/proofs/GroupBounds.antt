-- The groups of at most 2^32 - 1 rows are within the bounds of merging and finishing.
use Rattle.std.proofs.Common.{◌≡◌, ◌≢◌, ◌∙◌, ◌++◌, true≢false, append_assoc, append-nil, slice_index_or, sym, subst, ℕ, ◌≤◌, Bool, List, [], ◌∷◌, map, length, FitsSigned, arith}
use Rattle.std.specs.Int.{w64}
use Rattle.std.specs.List.{All, AllByRecursion, AllPairs, Contains}
use Rattle.std.proofs.lemmas.List.Elements.{All-from_recursion, All-contains_itself, recursion_from_All}
use Rattle.rows_core.specs.declared.value.Value.{Value}
use Rattle.rows_core.specs.declared.value.Value.TheVariants as value
use Rattle.rows_core.specs.Value.{row_eq}
use Rattle.std.proofs.lemmas.Int.{ints}
use Rattle.row_blob.specs.declared.kept.Acc.{Acc}
use Rattle.row_blob.specs.declared.kept.Acc.TheVariants as acc
use Rattle.row_blob.specs.declared.kept.GroupRow.{GroupRow}
use Rattle.row_blob.specs.declared.kept.Kept.TheVariants as kept
use Rattle.row_blob.specs.declared.shape.Shape.TheVariants as shape
use Rattle.row_blob.specs.Kept.{AreEach, AreInOrder, IsAcc, IsKept, IsNextGroup, keys_of as group_keys}
use Rattle.rows_core.specs.Equality.{row_eq-Decides}
use Rattle.std.proofs.lemmas.List.{map-append}
use Rattle.std.proofs.lemmas.List.Folds.{list_any_at}
use Rattle.std.proofs.lemmas.List.Quantifiers.{all_pairs_push}
use Rattle.plan_core.specs.PlainPlan.{PlainPlan, Group}
use Rattle.plan_core.specs.PlanTyping.{Kinds}
use Rattle.plan_laws.specs.PlanShape.{kinds_given, kind_at, acc_kind_of, plan_shape}
use Rattle.plan_core.specs.declared.agg.Agg.{Agg}
use Rattle.plan_core.specs.declared.agg.Agg.TheVariants as agg
use Rattle.plan_core.specs.Aggregate.{number_of, exact_sum, values_of}
use Rattle.plan_core.specs.Columns.{Row, Rows, column_of, columns_of}
use Rattle.plan_core.specs.Group.{keys_of, members_of}
use Rattle.plan_laws.specs.KeptForm.{acc_of, kept_group}
use Rattle.plan_laws.specs.GroupBounds.{IsAccOf, AreGroups, HasAverage, HaveAverages, HasNumber}
use Rattle.plan_laws.specs.GrowthOfGroups.{groups_of}
use Rattle.plan_laws.specs.ValidRows.{IsValid, IsValidRow, AreValidRows}
use Rattle.plan_laws.proofs.FirstOfEqual.{differ}
use Rattle.plan_laws.proofs.KeptParts.{sum_is}
use Rattle.plan_laws.proofs.MergedGroups.{some_members, keys_kept}
use Rattle.plan_laws.proofs.ValidPlans.{all-filter, filter_shorter}
use Rattle.plan_laws.proofs.ValidValues.{IsWithin, number_within, added_within, floor_valid, column_valid}

-- the numbers of a row that aggregates add up are in i64
abbrev pub HasNumbers : List Agg → Row → Type 0
HasNumbers aggs row = AllByRecursion (λ a. HasNumber a row) aggs

abbrev HasNumberAt : ℕ → Row → Type 0
HasNumberAt column row = FitsSigned w64 (number_of (column_of row column))

-- n numbers have a sum within n times the bounds of one
sums_within : (column : ℕ) (rows : Rows) → AllByRecursion (HasNumberAt column) rows → IsWithin (length rows) (exact_sum (values_of column rows))
sums_within column [] all = record { low = omega (arith, ints); high = omega (arith, ints) }
sums_within column (row ∷ rows) all =
    added_within (length rows) (number_of (column_of row column)) (exact_sum (values_of column rows)) (number_within (value.Int (number_of (column_of row column))) all.0) (sums_within column rows all.1)

-- the first aggregate's numbers, and those of the others
front : (a : Agg) (aggs : List Agg) (rows : Rows) → AllByRecursion (HasNumbers (a ∷ aggs)) rows → AllByRecursion (HasNumber a) rows
front a aggs [] all = tt
front a aggs (row ∷ rows) all = (all.0.0, front a aggs rows all.1)

others : (a : Agg) (aggs : List Agg) (rows : Rows) → AllByRecursion (HasNumbers (a ∷ aggs)) rows → AllByRecursion (HasNumbers aggs) rows
others a aggs [] all = tt
others a aggs (row ∷ rows) all = (all.0.1, others a aggs rows all.1)

module _ (first : Row) (rest : Rows) (few : length (first ∷ rest) ≤ 4294967295) where
  acc_is : (a : Agg) → AllByRecursion (HasNumber a) (first ∷ rest) → IsAccOf a (acc_of (first ∷ rest) a)
  acc_is agg.Count all = (omega arith, few)
  acc_is (agg.Sum c) all = sum_is (length (first ∷ rest)) (exact_sum (values_of c (first ∷ rest))) few (sums_within c (first ∷ rest) all)
  acc_is (agg.Min c) all = tt
  acc_is (agg.Max c) all = tt
  acc_is (agg.First c) all = tt
  acc_is (agg.Last c) all = tt
  acc_is (agg.Avg c) all = (sum_is (length (first ∷ rest)) (exact_sum (values_of c (first ∷ rest))) few (sums_within c (first ∷ rest) all), (omega arith, few))

  average_is : (a : Agg) → AllByRecursion (HasNumber a) (first ∷ rest) → HasAverage (acc_of (first ∷ rest) a)
  average_is agg.Count all = tt
  average_is (agg.Sum c) all = tt
  average_is (agg.Min c) all = tt
  average_is (agg.Max c) all = tt
  average_is (agg.First c) all = tt
  average_is (agg.Last c) all = tt
  average_is (agg.Avg c) all = floor_valid (exact_sum (values_of c (first ∷ rest))) (length (first ∷ rest)) (sums_within c (first ∷ rest) all)

  accs_are : (aggs : List Agg) → AllByRecursion (HasNumbers aggs) (first ∷ rest) → AreEach IsAccOf aggs (map (acc_of (first ∷ rest)) aggs)
  accs_are [] all = tt
  accs_are (a ∷ aggs) all = (acc_is a (front a aggs (first ∷ rest) all), accs_are aggs (others a aggs (first ∷ rest) all))

  averages_are : (aggs : List Agg) → AllByRecursion (HasNumbers aggs) (first ∷ rest) → AllByRecursion HasAverage (map (acc_of (first ∷ rest)) aggs)
  averages_are [] all = tt
  averages_are (a ∷ aggs) all = (average_is a (front a aggs (first ∷ rest) all), averages_are aggs (others a aggs (first ∷ rest) all))

all_mapped : {X Y : Type 0} (P : Y → Type 0) (f : X → Y) (xs : List X) → AllByRecursion (λ x. P (f x)) xs → AllByRecursion P (map f xs)
all_mapped P f [] all = tt
all_mapped P f (x ∷ xs) all = (all.0, all_mapped P f xs all.1)

pub each : {X : Type 0} (P Q : X → Type 0) → ((x : X) → P x → Q x) → (xs : List X) → AllByRecursion P xs → AllByRecursion Q xs
each P Q gives [] all = tt
each P Q gives (x ∷ xs) all = (gives x all.0, each P Q gives xs all.1)

module _ (keys : List ℕ) (aggs : List Agg) (rows : Rows) (numbers : AllByRecursion (HasNumbers aggs) rows) (few : length rows ≤ 4294967295) where
  -- what holds of the accumulators of the rows of a group holds of each group
  each_group : (P : List Acc → Type 0) → ((first : Row) (rest : Rows) → length (first ∷ rest) ≤ 4294967295 → AllByRecursion (HasNumbers aggs) (first ∷ rest) → P (map (acc_of (first ∷ rest)) aggs))
      → AllByRecursion (λ group. P group.accs) (groups_of keys aggs rows)
  each_group P holds =
      all_mapped (λ group. P group.accs) (kept_group keys aggs rows) (keys_of keys rows)
      (each (Contains (keys_of keys rows)) (λ key. P (map (acc_of (members_of keys rows key)) aggs)) at (keys_of keys rows)
      (recursion_from_All (Contains (keys_of keys rows)) (keys_of keys rows) (All-contains_itself (keys_of keys rows))))
    where
      at : (key : Row) → Contains (keys_of keys rows) key → P (map (acc_of (members_of keys rows key)) aggs)
      at key h =
          let p : Row → Bool = λ row. row_eq key (columns_of keys row) in
          let some = some_members keys rows key h in
          let fewer : length (members_of keys rows key) ≤ 4294967295 = omega (arith, filter_shorter p rows) in
          subst (λ members. P (map (acc_of members) aggs)) (sym some.all)
          (holds some.first some.others (subst (λ (l : Rows). length l ≤ 4294967295) some.all fewer)
          (subst (λ (l : Rows). AllByRecursion (HasNumbers aggs) l) some.all (all-filter (HasNumbers aggs) p rows numbers)))

  pub are_groups : AreGroups aggs (groups_of keys aggs rows)
  are_groups = (
    subst (λ (ks : Rows). AllPairs (λ a b. a ≢ b) ks) (sym (keys_kept keys aggs rows (keys_of keys rows))) (differ (map (columns_of keys) rows)),
    All-from_recursion (λ group. AreEach IsAccOf aggs group.accs) (groups_of keys aggs rows) (each_group (AreEach IsAccOf aggs) (λ first rest few all. accs_are first rest few aggs all)),
  )

  pub have_averages : HaveAverages (groups_of keys aggs rows)
  have_averages =
      All-from_recursion (λ group. All HasAverage group.accs) (groups_of keys aggs rows)
      (each_group (All HasAverage) (λ first rest few all. All-from_recursion HasAverage (map (acc_of (first ∷ rest)) aggs) (averages_are first rest few aggs all)))

-- ---- valid rows

valid_number : (v : Value) → IsValid v → FitsSigned w64 (number_of v)
valid_number (value.Int n) valid = valid
valid_number (value.Text t) valid = record { sfits = omega arith }
valid_number (value.Bool b) valid = record { sfits = omega arith }

valid_for : (row : Row) → IsValidRow row → (a : Agg) → HasNumber a row
valid_for row valid agg.Count = tt
valid_for row valid (agg.Sum c) = valid_number (column_of row c) (column_valid row c valid)
valid_for row valid (agg.Min c) = tt
valid_for row valid (agg.Max c) = tt
valid_for row valid (agg.First c) = tt
valid_for row valid (agg.Last c) = tt
valid_for row valid (agg.Avg c) = valid_number (column_of row c) (column_valid row c valid)

valid_numbers : (aggs : List Agg) (row : Row) → IsValidRow row → HasNumbers aggs row
valid_numbers [] row valid = tt
valid_numbers (a ∷ aggs) row valid = (valid_for row valid a, valid_numbers aggs row valid)

all_numbers : (aggs : List Agg) (rows : Rows) → AreValidRows rows → AllByRecursion (HasNumbers aggs) rows
all_numbers aggs rows valid = each IsValidRow (HasNumbers aggs) (valid_numbers aggs) rows valid

pub groups_of_valid_rows : (keys : List ℕ) (aggs : List Agg) (rows : Rows) → AreValidRows rows → length rows ≤ 4294967295 → AreGroups aggs (groups_of keys aggs rows)
groups_of_valid_rows keys aggs rows valid few = are_groups keys aggs rows (all_numbers aggs rows valid) few

pub averages_of_valid_rows : (keys : List ℕ) (aggs : List Agg) (rows : Rows) → AreValidRows rows → length rows ≤ 4294967295 → HaveAverages (groups_of keys aggs rows)
averages_of_valid_rows keys aggs rows valid few = have_averages keys aggs rows (all_numbers aggs rows valid) few

-- ---- groups of a file

acc_within : (kinds : Kinds) (a : Agg) (x : Acc) → IsAcc (acc_kind_of kinds a) x → IsAccOf a x
acc_within kinds agg.Count (acc.Count n) h = h
acc_within kinds (agg.Sum c) (acc.Sum s) h = h
acc_within kinds (agg.Avg c) (acc.Avg s n) h = h
acc_within kinds (agg.Min c) (acc.Pick v) h = tt
acc_within kinds (agg.Max c) (acc.Pick v) h = tt
acc_within kinds (agg.First c) (acc.Pick v) h = tt
acc_within kinds (agg.Last c) (acc.Pick v) h = tt
acc_within kinds _ _ h = absurd h

accs_within : (kinds : Kinds) (aggs : List Agg) (xs : List Acc) → AreEach IsAcc (map (acc_kind_of kinds) aggs) xs → AreEach IsAccOf aggs xs
accs_within kinds [] [] each = tt
accs_within kinds [] (x ∷ xs) each = absurd each
accs_within kinds (a ∷ aggs) [] each = absurd each
accs_within kinds (a ∷ aggs) (x ∷ xs) each = (acc_within kinds a x each.0, accs_within kinds aggs xs each.1)

module _ (keys : Kinds) (kinds : Kinds) (aggs : List Agg) where
  all_within : (before groups : List GroupRow) → AreInOrder (IsNextGroup keys (map (acc_kind_of kinds) aggs)) before groups → AllByRecursion (λ group. AreEach IsAccOf aggs group.accs) groups
  all_within before [] order = tt
  all_within before (group ∷ groups) order = (accs_within kinds aggs group.accs order.0.1, all_within (before ++ group ∷ []) groups order.1)

  all_differ : (before groups : List GroupRow) → AllPairs (λ a b. a ≢ b) (group_keys before) → AreInOrder (IsNextGroup keys (map (acc_kind_of kinds) aggs)) before groups
      → AllPairs (λ a b. a ≢ b) (group_keys (before ++ groups))
  all_differ before [] pairs order = subst (λ (l : List GroupRow). AllPairs (λ a b. a ≢ b) (group_keys l)) (sym (append-nil before)) pairs
  all_differ before (group ∷ groups) pairs order =
      subst (λ (l : List GroupRow). AllPairs (λ a b. a ≢ b) (group_keys l)) (append_assoc before (group ∷ []) groups)
      (all_differ (before ++ group ∷ []) groups
      (subst (AllPairs (λ a b. a ≢ b)) (sym (map-append (λ g. g.key) before (group ∷ [])))
      (all_pairs_push (λ a b. a ≢ b) (group_keys before) group.key pairs
      (λ i other within same. true≢false (sym (list_any_at (row_eq group.key) (group_keys before) i other within ((row_eq-Decides group.key (slice_index_or (group_keys before) i other)).1 (sym same))) ∙ order.0.2))))
      order.1)

  pub kept_groups : (groups : List GroupRow) → IsKept (shape.Groups keys (map (acc_kind_of kinds) aggs)) (kept.Groups groups) → AreGroups aggs groups
  kept_groups groups is = (
    all_differ [] groups (λ i j key before within. absurd (omega (arith, within))) is.1,
    All-from_recursion (λ group. AreEach IsAccOf aggs group.accs) groups (all_within [] groups is.1),
  )

pub kept_within_bounds : (schemas : List Kinds) (child : PlainPlan) (keys : List ℕ) (aggs : List Agg) (groups : List GroupRow) → IsKept (plan_shape schemas (Group child keys aggs)) (kept.Groups groups) → AreGroups aggs groups
kept_within_bounds schemas child keys aggs groups = kept_groups (map (kind_at (kinds_given schemas child)) keys) (kinds_given schemas child) aggs groups
