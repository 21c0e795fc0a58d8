-- Of which form is what was made, and in which order its rows and groups stand.
use Rattle.std.proofs.Common.{◌≡◌, ◌≢◌, refl, sym, ap, ◌∙◌, subst, ℕ, ◌+◌, List, length, map, Ok, arith}
use Rattle.std.specs.Cmp.{IsTotalOrder}
use Rattle.std.specs.List.{AllPairs}
use Rattle.std.specs.List.Sorted.{IsSorted}
use Rattle.rows_core.specs.declared.order.Key.{Key}
use Rattle.rows_core.specs.RowOrder.{row_cmp}
use Rattle.row_blob.specs.declared.kept.Kept.TheVariants as kept
use Rattle.row_blob.specs.Kept.{keys_of as group_keys}
use Rattle.plan_core.specs.declared.agg.Agg.{Agg}
use Rattle.plan_core.specs.Columns.{Rows, columns_of}
use Rattle.plan_core.specs.Group.{keys_of}
use Rattle.plan_core.specs.PlainPlan.{PlainPlan, Scan, Filter, Project, Distinct, Group, Join, Concat, Order}
use Rattle.plan_core.specs.PlanMeaning.{plan_meaning}
use Rattle.plan_core.specs.StableOrder.{order_rows}
use Rattle.plan_laws.specs.GrowthOfGroups.{groups_of}
use Rattle.plan_laws.specs.GrowthOfJoins.{AscendsByPosition, ArePositionsWithin}
use Rattle.plan_laws.specs.KeptForm.{kept_form, tagged_from}
use Rattle.plan_laws.proofs.FirstOfEqual.{differ}
use Rattle.plan_laws.proofs.Insertion.{ordered}
use Rattle.plan_laws.proofs.MergedGroups.{keys_kept}
use Rattle.plan_laws.proofs.TaggedMerge.{tagged_ascends, positions_within}
use Rattle.growth_laws.specs.Growth.{Made, IsMade}
use Rattle.growth_laws.specs.Making.{IsFormOf, as_rows, kept_rows, kept_groups, kept_tagged, left_length}
use Rattle.growth_laws.proofs.AddedRows.{gave_first, ok_is}
use Rattle.growth_laws.proofs.GrownJoins.{inputs}
use Rattle.growth_laws.proofs.GrownResults.{are_kept}

pub order_ascends : (total : (keys : List Key) → IsTotalOrder (row_cmp keys)) (child : PlainPlan) (keys : List Key) (lists : List Rows) (made : Made) → IsMade (Order child keys) lists (Ok made) → IsSorted (row_cmp keys) (kept_rows made.kept)
order_ascends total child keys lists made is =
    let here = are_kept (Order child keys) lists lists refl refl made is in
    let below = gave_first (plan_meaning child lists) (λ rows. Ok (order_rows keys rows)) here.0 here.1 in
    let same : order_rows keys below.0 ≡ here.0 = ok_is (Ok (order_rows keys below.0)) (order_rows keys below.0) here.0 refl below.2 in
    subst (IsSorted (row_cmp keys)) (same ∙ ap kept_rows here.2) (ordered keys (total keys) below.0).ascends

pub join_ascends : (left right : PlainPlan) (on : List (ℕ × ℕ)) (lists : List Rows) (made : Made) → IsMade (Join left right on) lists (Ok made) → AscendsByPosition (kept_tagged made.kept)
join_ascends left right on lists made is =
    let here = inputs left right on lists lists made is in
    subst AscendsByPosition (ap kept_tagged here.4) (tagged_ascends 0 on here.0 here.1)

pub join_within : (left right : PlainPlan) (on : List (ℕ × ℕ)) (lists : List Rows) (made : Made) → IsMade (Join left right on) lists (Ok made) → ArePositionsWithin 0 (left_length made.kept) (kept_tagged made.kept)
join_within left right on lists made is =
    let here = inputs left right on lists lists made is in
    let counted : 0 + length here.0 ≡ length here.0 = omega arith in
    subst (λ form. ArePositionsWithin 0 (left_length form) (kept_tagged form)) here.4
    (subst (λ n. ArePositionsWithin 0 n (tagged_from 0 on here.0 here.1)) counted (positions_within 0 on here.0 here.1))

pub groups_differ : (child : PlainPlan) (keys : List ℕ) (aggs : List Agg) (lists : List Rows) (made : Made) → IsMade (Group child keys aggs) lists (Ok made) → AllPairs (λ a b. a ≢ b) (group_keys (kept_groups made.kept))
groups_differ child keys aggs lists made is =
    let below = gave_first (plan_meaning child lists) (λ rows. Ok (kept.Groups (groups_of keys aggs rows))) made.kept is.0 in
    let here : kept.Groups (groups_of keys aggs below.0) ≡ made.kept = ok_is (Ok (kept.Groups (groups_of keys aggs below.0))) (kept.Groups (groups_of keys aggs below.0)) made.kept refl below.2 in
    subst (AllPairs (λ a b. a ≢ b)) (sym (keys_kept keys aggs below.0 (keys_of keys below.0)) ∙ ap (λ form. group_keys (kept_groups form)) here) (differ (map (columns_of keys) below.0))

-- ---- the form

rows_form : (plan : PlainPlan) (lists : List Rows) → kept_form plan lists ≡ as_rows (plan_meaning plan lists) → (made : Made) → IsMade plan lists (Ok made) → (P : Type 0) → ((rows : Rows) → kept.Rows rows ≡ made.kept → P) → P
rows_form plan lists form made is P f = let here = are_kept plan lists lists form form made is in f here.0 here.2

pub form_made : (plan : PlainPlan) (lists : List Rows) (made : Made) → IsMade plan lists (Ok made) → IsFormOf plan made.kept
form_made (Scan stream) lists made is = rows_form (Scan stream) lists refl made is _ (λ rows same. subst (IsFormOf (Scan stream)) same tt)
form_made (Filter child test) lists made is = rows_form (Filter child test) lists refl made is _ (λ rows same. subst (IsFormOf (Filter child test)) same tt)
form_made (Project child columns) lists made is = rows_form (Project child columns) lists refl made is _ (λ rows same. subst (IsFormOf (Project child columns)) same tt)
form_made (Distinct child) lists made is = rows_form (Distinct child) lists refl made is _ (λ rows same. subst (IsFormOf (Distinct child)) same tt)
form_made (Concat left right) lists made is = rows_form (Concat left right) lists refl made is _ (λ rows same. subst (IsFormOf (Concat left right)) same tt)
form_made (Order child keys) lists made is = rows_form (Order child keys) lists refl made is _ (λ rows same. subst (IsFormOf (Order child keys)) same tt)
form_made (Group child keys aggs) lists made is =
    let below = gave_first (plan_meaning child lists) (λ rows. Ok (kept.Groups (groups_of keys aggs rows))) made.kept is.0 in
    let here : kept.Groups (groups_of keys aggs below.0) ≡ made.kept = ok_is (Ok (kept.Groups (groups_of keys aggs below.0))) (kept.Groups (groups_of keys aggs below.0)) made.kept refl below.2 in
    subst (IsFormOf (Group child keys aggs)) here tt
form_made (Join left right on) lists made is = let here = inputs left right on lists lists made is in subst (IsFormOf (Join left right on)) here.4 tt
