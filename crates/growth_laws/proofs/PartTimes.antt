-- The machine time of each rewriting that stands in a rewriting is within that of the whole plan and of the results that are
-- read.
use Rattle.std.proofs.Common.{sym, ap, subst, ℕ, ◌+◌, ◌≤◌, List, ◌++◌, take, drop, arith}
use Rattle.std.specs.List.{AllByRecursion}
use Rattle.plan_core.specs.MachineTime.{rows_given, rows_taken_in, machine_time}
use Rattle.plan_core.specs.PlainPlan.{PlainPlan, Scan, Filter, Project, Distinct, Group, Join, Concat, Order, leaf_count}
use Rattle.estimator.specs.Cuts.{Cuts}
use Rattle.rewrite_core.specs.declared.rewriting.Hit.{Hit}
use Rattle.rewrite_core.specs.IsRewriting.{IsRewriting, IsWay, IsDelta, IsDeltaWay, OfOne, OfTwo, OfSides, OfTail, OfDeltaTail, OfDistinctChild, lefts, rights}
use Rattle.rewrite_core.specs.PlainRewriting.{PlainRewriting, Node, PlainWay, One, Two, Read, Tail, LeftGrew, RightGrew, BothGrew, PlainDelta, Change, PlainDeltaWay, Unchanged, NewRows, OfChild, OfDistinct, OfJoin}
use Rattle.rewrite_core.specs.PlainRewriting as tree
use Rattle.growth_laws.specs.KeptResults.{KeptResults, IsResultOf, kept_among}
use Rattle.growth_laws.specs.Lists.{Extents, plan_lists}
use Rattle.growth_laws.specs.Parts.{plan_at, cuts_at, parts_of, parts_in, parts_of_delta, parts_in_delta}
use Rattle.plan_laws.proofs.ValidPlans.{all-append}
use Rattle.growth_laws.proofs.TreeOwners.{from_one, from_distinct, from_two, from_sides, from_tail, from_delta_tail}
use Rattle.growth_laws.proofs.TreeParts.{left_part, right_part}

module _ (extents : Extents) (limit : ℕ) where
  abbrev Within : PlainPlan → Cuts → Type 0
  Within plan cuts = machine_time plan (plan_lists extents plan cuts) ≤ limit

  -- ---- the inputs of a plan

  left_within : (left right : PlainPlan) (cuts : Cuts) (others : ℕ) → 1 + (rows_given left (take (leaf_count left) (plan_lists extents (Concat left right) cuts)) + rows_taken_in left (take (leaf_count left) (plan_lists extents (Concat left right) cuts)) + others) ≤ limit → Within left (lefts left cuts)
  left_within left right cuts others within = let e = ap (rows_taken_in left) (left_part extents left right cuts) in omega (arith, within, e)

  right_within : (left right : PlainPlan) (cuts : Cuts) (others : ℕ) → 1 + (others + (rows_given right (drop (leaf_count left) (plan_lists extents (Concat left right) cuts)) + rows_taken_in right (drop (leaf_count left) (plan_lists extents (Concat left right) cuts)))) ≤ limit → Within right (rights left cuts)
  right_within left right cuts others within = let e = ap (rows_taken_in right) (right_part extents left right cuts) in omega (arith, within, e)

  left_of : (left right : PlainPlan) (cuts : Cuts) → Within (Concat left right) cuts → Within left (lefts left cuts)
  left_of left right cuts within =
      left_within left right cuts (rows_given right (drop (leaf_count left) (plan_lists extents (Concat left right) cuts)) + rows_taken_in right (drop (leaf_count left) (plan_lists extents (Concat left right) cuts))) within

  right_of : (left right : PlainPlan) (cuts : Cuts) → Within (Concat left right) cuts → Within right (rights left cuts)
  right_of left right cuts within =
      right_within left right cuts (rows_given left (take (leaf_count left) (plan_lists extents (Concat left right) cuts)) + rows_taken_in left (take (leaf_count left) (plan_lists extents (Concat left right) cuts))) within

  module _ (child : PlainPlan) (cuts : Cuts) where
    one_of : 1 + (rows_given child (plan_lists extents child cuts) + rows_taken_in child (plan_lists extents child cuts)) ≤ limit → Within child cuts
    one_of within = omega (arith, within)

  module _ (P : PlainPlan → Type 0) (cuts : Cuts) where
    within_one : (plan : PlainPlan) → Within plan cuts → OfOne P plan → OfOne (λ child. P child × Within child cuts) plan
    within_one (Scan stream) within is = absurd is
    within_one (Filter child test) within is = (is, one_of child cuts within)
    within_one (Project child columns) within is = (is, one_of child cuts within)
    within_one (Distinct child) within is = (is, one_of child cuts within)
    within_one (Group child keys aggs) within is = (is, one_of child cuts within)
    within_one (Join left right on) within is = absurd is
    within_one (Concat left right) within is = absurd is
    within_one (Order child keys) within is = (is, one_of child cuts within)

    within_distinct : (plan : PlainPlan) → Within plan cuts → OfDistinctChild P plan → OfDistinctChild (λ child. P child × Within child cuts) plan
    within_distinct (Scan stream) within is = absurd is
    within_distinct (Filter child test) within is = absurd is
    within_distinct (Project child columns) within is = absurd is
    within_distinct (Distinct child) within is = (is, one_of child cuts within)
    within_distinct (Group child keys aggs) within is = absurd is
    within_distinct (Join left right on) within is = absurd is
    within_distinct (Concat left right) within is = absurd is
    within_distinct (Order child keys) within is = absurd is

  module _ (P : PlainPlan → PlainPlan → Type 0) (cuts : Cuts) where
    within_two : (plan : PlainPlan) → Within plan cuts → OfTwo P plan → OfTwo (λ left right. P left right × Within left (lefts left cuts) × Within right (rights left cuts)) plan
    within_two (Scan stream) within is = absurd is
    within_two (Filter child test) within is = absurd is
    within_two (Project child columns) within is = absurd is
    within_two (Distinct child) within is = absurd is
    within_two (Group child keys aggs) within is = absurd is
    within_two (Join left right on) within is = (is, left_of left right cuts within, right_of left right cuts within)
    within_two (Concat left right) within is = (is, left_of left right cuts within, right_of left right cuts within)
    within_two (Order child keys) within is = absurd is

    within_sides : (plan : PlainPlan) → Within plan cuts → OfSides P plan → OfSides (λ left right. P left right × Within left (lefts left cuts) × Within right (rights left cuts)) plan
    within_sides (Scan stream) within is = absurd is
    within_sides (Filter child test) within is = absurd is
    within_sides (Project child columns) within is = absurd is
    within_sides (Distinct child) within is = absurd is
    within_sides (Group child keys aggs) within is = absurd is
    within_sides (Join left right on) within is = (is, left_of left right cuts within, right_of left right cuts within)
    within_sides (Concat left right) within is = absurd is
    within_sides (Order child keys) within is = absurd is

  module _ (P : PlainPlan → Cuts → Cuts → Type 0) (old new : Cuts) where
    within_tail : (plan : PlainPlan) → Within plan old → OfTail P plan old new → OfTail (λ child o n. P child o n × Within child o) plan old new
    within_tail (Scan stream) within is = absurd is
    within_tail (Filter child test) within is = (is, one_of child old within)
    within_tail (Project child columns) within is = (is, one_of child old within)
    within_tail (Distinct child) within is = (is, one_of child old within)
    within_tail (Group child keys aggs) within is = (is, one_of child old within)
    within_tail (Join left right on) within is = absurd is
    within_tail (Concat left right) within is = (is.0, (is.1, right_of left right old within))
    within_tail (Order child keys) within is = (is, one_of child old within)

    within_delta_tail : (plan : PlainPlan) → Within plan old → OfDeltaTail P plan old new → OfDeltaTail (λ child o n. P child o n × Within child o) plan old new
    within_delta_tail (Scan stream) within is = absurd is
    within_delta_tail (Filter child test) within is = (is, one_of child old within)
    within_delta_tail (Project child columns) within is = (is, one_of child old within)
    within_delta_tail (Distinct child) within is = absurd is
    within_delta_tail (Group child keys aggs) within is = absurd is
    within_delta_tail (Join left right on) within is = absurd is
    within_delta_tail (Concat left right) within is = (is.0, (is.1, right_of left right old within))
    within_delta_tail (Order child keys) within is = absurd is

  -- ---- the parts

  abbrev IsWithin : PlainRewriting → Type 0
  IsWithin part = Within (plan_at part) (cuts_at part)

  abbrev Are : List PlainRewriting → Type 0
  Are = AllByRecursion IsWithin

  joined : (xs ys : List PlainRewriting) → Are xs → Are ys → Are (xs ++ ys)
  joined = all-append IsWithin

  module _ (results : KeptResults) (kept : (id : ℕ) → (results id).machine ≤ limit) where
    hit_within : (plan : PlainPlan) (hit : Hit) → IsResultOf extents plan hit.cuts (results hit.id) → Within plan hit.cuts
    hit_within plan hit is = let e = is.machine in let within = kept hit.id in omega (arith, e, within)

    mutual
      pub parts_within : (r : PlainRewriting) (plan : PlainPlan) (cuts : Cuts) → Within plan cuts → IsRewriting (kept_among extents results) plan cuts r → Are (parts_of r)
      parts_within (Node p c way) plan cuts within is = (
        subst (λ q. Within q c) (sym is.0) (subst (λ d. Within plan d) (sym is.1) within),
        way_within way plan cuts within is.2,
      )

      way_within : (way : PlainWay) (plan : PlainPlan) (cuts : Cuts) → Within plan cuts → IsWay (kept_among extents results) plan cuts way → Are (parts_in way)
      way_within tree.Scan plan cuts within is = tt
      way_within (One r) plan cuts within is = from_one _ _ (λ child all. parts_within r child cuts all.1 all.0) plan (within_one _ cuts plan within is)
      way_within (Two l r) plan cuts within is =
          from_two _ _ (λ left right all. joined _ _ (parts_within l left (lefts left cuts) all.1 all.0.0) (parts_within r right (rights left cuts) all.2 all.0.1)) plan (within_two _ cuts plan within is)
      way_within (Read hit) plan cuts within is = tt
      way_within (Tail hit d) plan cuts within is =
          from_tail _ _ (λ child old new all. delta_within d child old new all.1 all.0) hit.cuts cuts plan (within_tail _ hit.cuts cuts plan (hit_within plan hit is.0.1) is.1)
      way_within (LeftGrew hit d r) plan cuts within is =
          from_sides _ _ (λ left right all. joined _ _ (delta_within d left (lefts left hit.cuts) (lefts left cuts) all.1 all.0.0.1) (parts_within r right (rights left cuts) all.0.2 all.0.0.2)) plan
          (within_sides _ hit.cuts plan (hit_within plan hit is.0.1) (within_sides _ cuts plan within is.1))
      way_within (RightGrew hit l d) plan cuts within is =
          from_sides _ _ (λ left right all. joined _ _ (parts_within l left (lefts left cuts) all.0.1 all.0.0.1) (delta_within d right (rights left hit.cuts) (rights left cuts) all.2 all.0.0.2)) plan
          (within_sides _ hit.cuts plan (hit_within plan hit is.0.1) (within_sides _ cuts plan within is.1))
      way_within (BothGrew hit l rd ld r) plan cuts within is =
          from_sides _ _ (λ left right all. joined _ _ (joined _ _ (joined _ _ (parts_within l left (lefts left hit.cuts) all.1 all.0.0.2)
          (delta_within rd right (rights left hit.cuts) (rights left cuts) all.2 all.0.0.3))
          (delta_within ld left (lefts left hit.cuts) (lefts left cuts) all.1 all.0.0.4)) (parts_within r right (rights left cuts) all.0.2 all.0.0.5)) plan
          (within_sides _ hit.cuts plan (hit_within plan hit is.0.1) (within_sides _ cuts plan within is.1))

      delta_within : (d : PlainDelta) (plan : PlainPlan) (old new : Cuts) → Within plan old → IsDelta (kept_among extents results) plan old new d → Are (parts_of_delta d)
      delta_within (Change p o n way) plan old new within is = delta_way_within way plan old new within is.3

      delta_way_within : (way : PlainDeltaWay) (plan : PlainPlan) (old new : Cuts) → Within plan old → IsDeltaWay (kept_among extents results) plan old new way → Are (parts_in_delta way)
      delta_way_within Unchanged plan old new within is = tt
      delta_way_within NewRows plan old new within is = tt
      delta_way_within (OfChild d) plan old new within is =
          from_delta_tail _ _ (λ child o n all. delta_within d child o n all.1 all.0) old new plan (within_delta_tail _ old new plan within is.1)
      delta_way_within (OfDistinct r d) plan old new within is =
          joined _ _ (parts_within r plan old within is.1) (from_distinct _ _ (λ child all. delta_within d child old new all.1 all.0) plan (within_distinct _ old plan within is.2))
      delta_way_within (OfJoin d r) plan old new within is =
          from_sides _ _ (λ left right all. joined _ _ (delta_within d left (lefts left old) (lefts left new) all.1 all.0.1)
          (parts_within r right (rights left new) (subst (Within right) all.0.0 all.2) all.0.2)) plan (within_sides _ old plan within is.1)
