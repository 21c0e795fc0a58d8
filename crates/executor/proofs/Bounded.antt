-- A result with a machine time within the limit lies within the bounds.
use Rattle.std.proofs.Common.{◌≡◌, ap, subst, ℕ, zero, suc, ◌-◌, ◌≤◌, ◌<◌, ◌^◌, List, [], ◌∷◌, length, take, drop, slice_range, IfOk, Ok, arith}
use Rattle.std.specs.List.{AllByRecursion, flat_map}
use Rattle.row_blob.specs.declared.kept.Kept.{Kept}
use Rattle.row_blob.specs.declared.kept.Kept.TheVariants as kept
use Rattle.plan_core.specs.Columns.{Rows}
use Rattle.plan_core.specs.ExpressionValue.{◌>>=◌}
use Rattle.plan_core.specs.Literals.{HasValidLiterals}
use Rattle.plan_core.specs.MachineTime.{row_count, rows_given, machine_time}
use Rattle.plan_core.specs.PlainPlan.{PlainPlan, Scan, Filter, Project, Distinct, Group, Join, Concat, Order, leaf_count}
use Rattle.plan_core.specs.PlanMeaning.{plan_meaning}
use Rattle.plan_core.specs.PlanTyping.{plan_kinds, group_kinds}
use Rattle.plan_laws.specs.GrowthOfGroups.{groups_of}
use Rattle.plan_laws.specs.KeptForm.{kept_form, tagged_from}
use Rattle.plan_laws.specs.ValidRows.{IsValidRow, AreValidRows, AreValidLists}
use Rattle.plan_laws.proofs.GroupBounds.{groups_of_valid_rows, averages_of_valid_rows}
use Rattle.plan_laws.proofs.ValidPlans.{all-append, all-take, all-drop}
use Rattle.plan_laws.proofs.TypedParts.{there}
use Rattle.estimator.specs.Cuts.{Cuts}
use Rattle.growth_laws.specs.Lists.{Extents, extents_of, lists_at}
use Rattle.growth_laws.proofs.AddedRows.{gave_first}
use Rattle.result_ops.specs.Bounds.{limit, IsBounded}
use Rattle.executor.proofs.Typings.{some_first}
use Rattle.executor.specs.Laws.{GivesValid}
use Rattle.executor.specs.Passing.{IsTyped}
use Rattle.executor.proofs.Steps.{from_ok}

module _ (law : GivesValid) where
  pub bounded : (plan : PlainPlan) (lists : List Rows) (form : Kept) → IsTyped plan → HasValidLiterals plan → AreValidLists lists → machine_time plan lists ≤ limit → kept_form plan lists ≡ Ok form → IsBounded plan form
  bounded (Group child keys aggs) lists form typed literals valid time is =
      let r = gave_first (plan_meaning child lists) (λ rows. Ok (kept.Groups (groups_of keys aggs rows))) form is in
      let k = there (plan_kinds typed.0 child) (some_first (group_kinds keys aggs) (plan_kinds typed.0 child) typed.1) in
      let below : machine_time child lists < 2 ^ 63 = omega (arith, time) in
      let rows_valid : AreValidRows r.0 = subst (λ m. IfOk m AreValidRows) r.1 (law typed.0 child k.0 lists k.1 literals valid below) in
      let count : rows_given child lists ≡ length r.0 = ap row_count r.1 in
      let few : length r.0 ≤ 4294967295 = omega (arith, time, count) in
      subst (IsBounded (Group child keys aggs)) (from_ok (kept.Groups (groups_of keys aggs r.0)) form r.2)
      (groups_of_valid_rows keys aggs r.0 rows_valid few, averages_of_valid_rows keys aggs r.0 rows_valid few)
  bounded (Join left right on) lists form typed literals valid time is =
      let l = gave_first (plan_meaning left (take (leaf_count left) lists)) (λ l. plan_meaning right (drop (leaf_count left) lists) >>= λ r. Ok (kept.Tagged (length l) (tagged_from 0 on l r))) form is in
      let r = gave_first (plan_meaning right (drop (leaf_count left) lists)) (λ r. Ok (kept.Tagged (length l.0) (tagged_from 0 on l.0 r))) form l.2 in
      let count : rows_given left (take (leaf_count left) lists) ≡ length l.0 = ap row_count l.1 in
      let few : length l.0 ≤ 4294967295 = omega (arith, time, count) in
      subst (IsBounded (Join left right on)) (from_ok (kept.Tagged (length l.0) (tagged_from 0 on l.0 r.0)) form r.2) few
  bounded (Scan stream) lists form typed literals valid time is = tt
  bounded (Filter child test) lists form typed literals valid time is = tt
  bounded (Project child columns) lists form typed literals valid time is = tt
  bounded (Distinct child) lists form typed literals valid time is = tt
  bounded (Concat left right) lists form typed literals valid time is = tt
  bounded (Order child keys) lists form typed literals valid time is = tt

-- ---- the rows of valid extents are valid

joined_valid : (lists : List Rows) → AllByRecursion AreValidRows lists → AreValidRows (flat_map (λ rows. rows) lists)
joined_valid [] all = tt
joined_valid (rows ∷ lists) all = all-append IsValidRow rows (flat_map (λ rows. rows) lists) all.0 (joined_valid lists all.1)

stream_valid : (extents : Extents) → AllByRecursion (AllByRecursion AreValidRows) extents → (stream : ℕ) → AllByRecursion AreValidRows (extents_of extents stream)
stream_valid [] all stream = tt
stream_valid (rows ∷ extents) all zero = all.0
stream_valid (rows ∷ extents) all (suc stream) = stream_valid extents all.1 stream

pub lists_valid : (extents : Extents) → AllByRecursion (AllByRecursion AreValidRows) extents → (streams : List ℕ) (cuts : Cuts) → AreValidLists (lists_at extents streams cuts)
lists_valid extents all [] cuts = tt
lists_valid extents all (stream ∷ streams) [] = tt
lists_valid extents all (stream ∷ streams) (cut ∷ cuts) = (
  joined_valid (slice_range (extents_of extents stream) cut.from cut.to)
      (all-take AreValidRows (cut.to - cut.from) (drop cut.from (extents_of extents stream)) (all-drop AreValidRows cut.from (extents_of extents stream) (stream_valid extents all stream))),
  lists_valid extents all streams cuts,
)
