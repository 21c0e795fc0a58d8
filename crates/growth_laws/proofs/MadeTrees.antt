-- What a rewriting makes is what is kept of its plan's result.
use Rattle.std.proofs.Common.{sym, subst, List, Ok, arith}
use Rattle.std.specs.Cmp.{IsTotalOrder}
use Rattle.rows_core.specs.declared.order.Key.{Key}
use Rattle.rows_core.specs.RowOrder.{row_cmp}
use Rattle.plan_core.specs.PlainPlan.{PlainPlan, Scan, Filter, Project, Distinct, Group, Join, Concat, Order, leaf_count}
use Rattle.estimator.specs.Cuts.{Cuts, AreIntervals}
use Rattle.rewrite_core.specs.declared.rewriting.Hit.{Hit}
use Rattle.rewrite_core.specs.PlainRewriting.{PlainRewriting, Node, PlainWay, One, Two, Read, Tail, LeftGrew, RightGrew, BothGrew, PlainDelta, Change, PlainDeltaWay, Unchanged, NewRows, OfChild, OfDistinct, OfJoin}
use Rattle.rewrite_core.specs.PlainRewriting as tree
use Rattle.rewrite_core.specs.IsRewriting.{Naming, IsRewriting, IsWay, IsDelta, IsDeltaWay, lefts, rights}
use Rattle.growth_laws.specs.Growth.{Extends, IsMade}
use Rattle.growth_laws.specs.KeptResults.{KeptResults, KeptResult, IsResultOf}
use Rattle.growth_laws.specs.Lists.{Extents, plan_lists}
use Rattle.growth_laws.specs.Making.{made_before}
use Rattle.growth_laws.specs.Trees.{made_by, made_in, added_by, added_in}
use Rattle.growth_laws.proofs.AddedRows.{unchanged, passed_extends, distinct_added, join_extends}
use Rattle.growth_laws.proofs.ComputedNodes.{scan_made, one_made, two_made}
use Rattle.growth_laws.proofs.GrownJoins.{left_made as left_grown, right_made as right_grown, both_made as both_grown}
use Rattle.growth_laws.proofs.GrownResults.{one_grown}
use Rattle.growth_laws.proofs.TreeParts.{first_intervals, other_intervals, same_left, same_right, left_made, right_made, left_extends, right_extends, of_one, of_two, of_tail, of_delta_tail, of_distinct, scan_added}

-- each result that a tree may name for a plan is that of this plan at its own cut
pub record AreResults (extents : Extents) (results : KeptResults) (names : Naming) : Type 0 where
  pub whole : (plan : PlainPlan) (cuts : Cuts) (hit : Hit) → names.whole plan cuts hit → IsResultOf extents plan cuts (results hit.id)
  pub earlier : (plan : PlainPlan) (cuts : Cuts) (hit : Hit) → names.earlier plan cuts hit → IsResultOf extents plan hit.cuts (results hit.id)
  pub intervals : (plan : PlainPlan) (cuts : Cuts) (hit : Hit) → names.earlier plan cuts hit → AreIntervals hit.cuts

result_made : (extents : Extents) (plan : PlainPlan) (cuts : Cuts) (result : KeptResult) → IsResultOf extents plan cuts result → IsMade plan (plan_lists extents plan cuts) (Ok (made_before result))
result_made extents plan cuts result is = (is.form, let e = is.machine in omega (arith, e))

module _ (extents : Extents) (results : KeptResults) (names : Naming) (are : AreResults extents results names) (total : (keys : List Key) → IsTotalOrder (row_cmp keys)) where
  -- the earlier result that a tree names
  old_made : (plan : PlainPlan) (cuts : Cuts) (hit : Hit) → names.earlier plan cuts hit → IsMade plan (plan_lists extents plan hit.cuts) (Ok (made_before (results hit.id)))
  old_made plan cuts hit named = result_made extents plan hit.cuts (results hit.id) (are.earlier plan cuts hit named)

  mutual
    pub tree_made : (r : PlainRewriting) (plan : PlainPlan) (cuts : Cuts) → IsRewriting names plan cuts r → IsMade plan (plan_lists extents plan cuts) (made_by extents results r)
    tree_made (Node p c way) plan cuts is =
        subst (λ p. IsMade plan (plan_lists extents plan cuts) (made_in extents results p c way)) (sym is.0)
        (subst (λ c. IsMade plan (plan_lists extents plan cuts) (made_in extents results plan c way)) (sym is.1) (way_made way plan cuts is.2))

    way_made : (way : PlainWay) (plan : PlainPlan) (cuts : Cuts) → IsWay names plan cuts way → IsMade plan (plan_lists extents plan cuts) (made_in extents results plan cuts way)
    way_made tree.Scan plan cuts is = scan_made plan (plan_lists extents plan cuts) is
    way_made (One r) plan cuts is =
        one_made plan (plan_lists extents plan cuts) (made_by extents results r)
        (of_one extents (λ input. IsRewriting names input cuts r) cuts (made_by extents results r) (λ input. tree_made r input cuts) plan is)
    way_made (Two l r) plan cuts is =
        two_made plan (plan_lists extents plan cuts) (made_by extents results l) (made_by extents results r)
        (of_two extents (λ input part. IsRewriting names input part l) cuts (made_by extents results l) (λ input part. tree_made l input part)
        (λ input part. IsRewriting names input part r) (made_by extents results r) (λ input part. tree_made r input part) plan is)
    way_made (Read hit) plan cuts is = result_made extents plan cuts (results hit.id) (are.whole plan cuts hit is)
    way_made (Tail hit d) plan cuts is =
        one_grown total (plan_lists extents plan hit.cuts) (plan_lists extents plan cuts) (made_before (results hit.id)) (added_by extents results d) plan (old_made plan cuts hit is.0)
        (of_tail extents (λ input old new. IsDelta names input old new d) (added_by extents results d) (λ input old new intervals. delta_made d input old new intervals) hit.cuts cuts (are.intervals plan cuts hit is.0) plan is.1)
    way_made (LeftGrew hit d r) (Join left right on) cuts is =
        let plan = Join left right on in
        let intervals = are.intervals plan cuts hit is.0 in
        left_grown left right on (plan_lists extents plan hit.cuts) (plan_lists extents plan cuts) (made_before (results hit.id)) (old_made plan cuts hit is.0)
        (same_right extents left right hit.cuts cuts is.1.0) (added_by extents results d) (made_by extents results r)
        (left_extends extents left right hit.cuts cuts (added_by extents results d) (delta_made d left (lefts left hit.cuts) (lefts left cuts) (first_intervals (leaf_count left) hit.cuts intervals) is.1.1))
        (right_made extents left right cuts (made_by extents results r) (tree_made r right (rights left cuts) is.1.2))
    way_made (RightGrew hit l d) (Join left right on) cuts is =
        let plan = Join left right on in
        let intervals = are.intervals plan cuts hit is.0 in
        right_grown left right on (plan_lists extents plan hit.cuts) (plan_lists extents plan cuts) (made_before (results hit.id)) (old_made plan cuts hit is.0)
        (same_left extents left right hit.cuts cuts is.1.0) (made_by extents results l) (added_by extents results d)
        (left_made extents left right cuts (made_by extents results l) (tree_made l left (lefts left cuts) is.1.1))
        (right_extends extents left right hit.cuts cuts (added_by extents results d) (delta_made d right (rights left hit.cuts) (rights left cuts) (other_intervals (leaf_count left) hit.cuts intervals) is.1.2))
    way_made (BothGrew hit l rd ld r) (Join left right on) cuts is =
        let plan = Join left right on in
        let intervals = are.intervals plan cuts hit is.0 in
        both_grown left right on (plan_lists extents plan hit.cuts) (plan_lists extents plan cuts) (made_before (results hit.id)) (old_made plan cuts hit is.0)
        (made_by extents results l) (added_by extents results rd) (added_by extents results ld) (made_by extents results r)
        (left_made extents left right hit.cuts (made_by extents results l) (tree_made l left (lefts left hit.cuts) is.1.2))
        (right_extends extents left right hit.cuts cuts (added_by extents results rd) (delta_made rd right (rights left hit.cuts) (rights left cuts) (other_intervals (leaf_count left) hit.cuts intervals) is.1.3))
        (left_extends extents left right hit.cuts cuts (added_by extents results ld) (delta_made ld left (lefts left hit.cuts) (lefts left cuts) (first_intervals (leaf_count left) hit.cuts intervals) is.1.4))
        (right_made extents left right cuts (made_by extents results r) (tree_made r right (rights left cuts) is.1.5))
    way_made (LeftGrew hit d r) (Scan stream) cuts is = absurd is.1
    way_made (LeftGrew hit d r) (Filter child test) cuts is = absurd is.1
    way_made (LeftGrew hit d r) (Project child columns) cuts is = absurd is.1
    way_made (LeftGrew hit d r) (Distinct child) cuts is = absurd is.1
    way_made (LeftGrew hit d r) (Group child keys aggs) cuts is = absurd is.1
    way_made (LeftGrew hit d r) (Concat left right) cuts is = absurd is.1
    way_made (LeftGrew hit d r) (Order child keys) cuts is = absurd is.1
    way_made (RightGrew hit l d) (Scan stream) cuts is = absurd is.1
    way_made (RightGrew hit l d) (Filter child test) cuts is = absurd is.1
    way_made (RightGrew hit l d) (Project child columns) cuts is = absurd is.1
    way_made (RightGrew hit l d) (Distinct child) cuts is = absurd is.1
    way_made (RightGrew hit l d) (Group child keys aggs) cuts is = absurd is.1
    way_made (RightGrew hit l d) (Concat left right) cuts is = absurd is.1
    way_made (RightGrew hit l d) (Order child keys) cuts is = absurd is.1
    way_made (BothGrew hit l rd ld r) (Scan stream) cuts is = absurd is.1
    way_made (BothGrew hit l rd ld r) (Filter child test) cuts is = absurd is.1
    way_made (BothGrew hit l rd ld r) (Project child columns) cuts is = absurd is.1
    way_made (BothGrew hit l rd ld r) (Distinct child) cuts is = absurd is.1
    way_made (BothGrew hit l rd ld r) (Group child keys aggs) cuts is = absurd is.1
    way_made (BothGrew hit l rd ld r) (Concat left right) cuts is = absurd is.1
    way_made (BothGrew hit l rd ld r) (Order child keys) cuts is = absurd is.1

    pub delta_made : (d : PlainDelta) (plan : PlainPlan) (old new : Cuts) → AreIntervals old → IsDelta names plan old new d
        → Extends plan (plan_lists extents plan old) (plan_lists extents plan new) (added_by extents results d)
    delta_made (Change p o n way) plan old new intervals is =
        subst (λ p. Extends plan (plan_lists extents plan old) (plan_lists extents plan new) (added_in extents results p o n way)) (sym is.0)
        (subst (λ o. Extends plan (plan_lists extents plan old) (plan_lists extents plan new) (added_in extents results plan o n way)) (sym is.1)
        (subst (λ n. Extends plan (plan_lists extents plan old) (plan_lists extents plan new) (added_in extents results plan old n way)) (sym is.2) (delta_way_made way plan old new intervals is.3)))

    delta_way_made : (way : PlainDeltaWay) (plan : PlainPlan) (old new : Cuts) → AreIntervals old → IsDeltaWay names plan old new way
        → Extends plan (plan_lists extents plan old) (plan_lists extents plan new) (added_in extents results plan old new way)
    delta_way_made Unchanged plan old new intervals is =
        subst (λ new. Extends plan (plan_lists extents plan old) (plan_lists extents plan new) (added_in extents results plan old new Unchanged)) is (unchanged plan (plan_lists extents plan old))
    delta_way_made NewRows plan old new intervals is = scan_added extents plan old new intervals is.0 is.1
    delta_way_made (OfChild d) plan old new intervals is =
        passed_extends plan (plan_lists extents plan old) (plan_lists extents plan new) (added_by extents results d)
        (of_delta_tail extents (λ input old new. IsDelta names input old new d) (added_by extents results d) (λ input old new intervals. delta_made d input old new intervals) old new intervals plan is.1)
    delta_way_made (OfDistinct r d) plan old new intervals is =
        distinct_added plan (plan_lists extents plan old) (plan_lists extents plan new) (made_by extents results r) (added_by extents results d) (tree_made r plan old is.1)
        (of_distinct extents (λ input old new. IsDelta names input old new d) (added_by extents results d) (λ input old new intervals. delta_made d input old new intervals) old new intervals plan is.2)
    delta_way_made (OfJoin d r) (Join left right on) old new intervals is =
        let plan = Join left right on in
        join_extends left right on (plan_lists extents plan old) (plan_lists extents plan new) (same_right extents left right old new is.1.0) (added_by extents results d) (made_by extents results r)
        (left_extends extents left right old new (added_by extents results d) (delta_made d left (lefts left old) (lefts left new) (first_intervals (leaf_count left) old intervals) is.1.1))
        (right_made extents left right new (made_by extents results r) (tree_made r right (rights left new) is.1.2))
    delta_way_made (OfJoin d r) (Scan stream) old new intervals is = absurd is.1
    delta_way_made (OfJoin d r) (Filter child test) old new intervals is = absurd is.1
    delta_way_made (OfJoin d r) (Project child columns) old new intervals is = absurd is.1
    delta_way_made (OfJoin d r) (Distinct child) old new intervals is = absurd is.1
    delta_way_made (OfJoin d r) (Group child keys aggs) old new intervals is = absurd is.1
    delta_way_made (OfJoin d r) (Concat left right) old new intervals is = absurd is.1
    delta_way_made (OfJoin d r) (Order child keys) old new intervals is = absurd is.1
