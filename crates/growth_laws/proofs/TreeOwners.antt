-- Each rewriting that stands in a rewriting is one of its own plan at its own cut.
use Rattle.std.proofs.Common.{sym, subst, List, ◌++◌}
use Rattle.std.specs.Cmp.{IsTotalOrder}
use Rattle.std.specs.List.{AllByRecursion}
use Rattle.rows_core.specs.declared.order.Key.{Key}
use Rattle.rows_core.specs.RowOrder.{row_cmp}
use Rattle.plan_core.specs.PlainPlan.{PlainPlan, Scan, Filter, Project, Distinct, Group, Join, Concat, Order}
use Rattle.estimator.specs.Cuts.{Cuts}
use Rattle.rewrite_core.specs.IsRewriting.{IsRewriting, IsWay, IsDelta, IsDeltaWay, OfOne, OfTwo, OfSides, OfTail, OfDeltaTail, OfDistinctChild, lefts, rights}
use Rattle.rewrite_core.specs.PlainRewriting.{PlainRewriting, Node, PlainWay, One, Two, Read, Tail, LeftGrew, RightGrew, BothGrew, PlainDelta, Change, PlainDeltaWay, Unchanged, NewRows, OfChild, OfDistinct, OfJoin}
use Rattle.rewrite_core.specs.PlainRewriting as tree
use Rattle.plan_laws.proofs.ValidPlans.{all-append}
use Rattle.growth_laws.specs.KeptResults.{KeptResults, kept_among}
use Rattle.growth_laws.specs.Lists.{Extents}
use Rattle.growth_laws.specs.Parts.{parts_of, parts_in, parts_of_delta, parts_in_delta, IsOwn}
use Rattle.growth_laws.proofs.MadeTrees.{tree_made}
use Rattle.growth_laws.proofs.NamedResults.{as_named}

-- ---- what holds of some input

module _ (P : PlainPlan → Type 0) (B : Type 0) (f : (plan : PlainPlan) → P plan → B) where
  pub from_one : (plan : PlainPlan) → OfOne P plan → B
  from_one (Scan stream) is = absurd is
  from_one (Filter child test) is = f child is
  from_one (Project child columns) is = f child is
  from_one (Distinct child) is = f child is
  from_one (Group child keys aggs) is = f child is
  from_one (Join left right on) is = absurd is
  from_one (Concat left right) is = absurd is
  from_one (Order child keys) is = f child is

  pub from_distinct : (plan : PlainPlan) → OfDistinctChild P plan → B
  from_distinct (Scan stream) is = absurd is
  from_distinct (Filter child test) is = absurd is
  from_distinct (Project child columns) is = absurd is
  from_distinct (Distinct child) is = f child is
  from_distinct (Group child keys aggs) is = absurd is
  from_distinct (Join left right on) is = absurd is
  from_distinct (Concat left right) is = absurd is
  from_distinct (Order child keys) is = absurd is

module _ (P : PlainPlan → PlainPlan → Type 0) (B : Type 0) (f : (left right : PlainPlan) → P left right → B) where
  pub from_two : (plan : PlainPlan) → OfTwo P plan → B
  from_two (Scan stream) is = absurd is
  from_two (Filter child test) is = absurd is
  from_two (Project child columns) is = absurd is
  from_two (Distinct child) is = absurd is
  from_two (Group child keys aggs) is = absurd is
  from_two (Join left right on) is = f left right is
  from_two (Concat left right) is = f left right is
  from_two (Order child keys) is = absurd is

  pub from_sides : (plan : PlainPlan) → OfSides P plan → B
  from_sides (Scan stream) is = absurd is
  from_sides (Filter child test) is = absurd is
  from_sides (Project child columns) is = absurd is
  from_sides (Distinct child) is = absurd is
  from_sides (Group child keys aggs) is = absurd is
  from_sides (Join left right on) is = f left right is
  from_sides (Concat left right) is = absurd is
  from_sides (Order child keys) is = absurd is

module _ (P : PlainPlan → Cuts → Cuts → Type 0) (B : Type 0) (f : (plan : PlainPlan) (old new : Cuts) → P plan old new → B) (old new : Cuts) where
  pub from_tail : (plan : PlainPlan) → OfTail P plan old new → B
  from_tail (Scan stream) is = absurd is
  from_tail (Filter child test) is = f child old new is
  from_tail (Project child columns) is = f child old new is
  from_tail (Distinct child) is = f child old new is
  from_tail (Group child keys aggs) is = f child old new is
  from_tail (Join left right on) is = absurd is
  from_tail (Concat left right) is = f right (rights left old) (rights left new) is.1
  from_tail (Order child keys) is = f child old new is

  pub from_delta_tail : (plan : PlainPlan) → OfDeltaTail P plan old new → B
  from_delta_tail (Scan stream) is = absurd is
  from_delta_tail (Filter child test) is = f child old new is
  from_delta_tail (Project child columns) is = f child old new is
  from_delta_tail (Distinct child) is = absurd is
  from_delta_tail (Group child keys aggs) is = absurd is
  from_delta_tail (Join left right on) is = absurd is
  from_delta_tail (Concat left right) is = f right (rights left old) (rights left new) is.1
  from_delta_tail (Order child keys) is = absurd is

-- ---- the parts

module _ (extents : Extents) (results : KeptResults) (total : (keys : List Key) → IsTotalOrder (row_cmp keys)) where
  abbrev Owns : List PlainRewriting → Type 0
  Owns = AllByRecursion (IsOwn extents results)

  joined : (xs ys : List PlainRewriting) → Owns xs → Owns ys → Owns (xs ++ ys)
  joined = all-append (IsOwn extents results)

  pub own : (plan : PlainPlan) (cuts : Cuts) (way : PlainWay) → IsRewriting (kept_among extents results) plan cuts (Node plan cuts way) → IsOwn extents results (Node plan cuts way)
  own plan cuts way is = record { is = is; made = tree_made extents results (kept_among extents results) (as_named extents results) total (Node plan cuts way) plan cuts is }

  mutual
    pub parts_own : (r : PlainRewriting) (plan : PlainPlan) (cuts : Cuts) → IsRewriting (kept_among extents results) plan cuts r → Owns (parts_of r)
    parts_own (Node p c way) plan cuts is = (
      own p c way (subst (λ q. IsRewriting (kept_among extents results) q c (Node p c way)) (sym is.0) (subst (λ d. IsRewriting (kept_among extents results) plan d (Node p c way)) (sym is.1) is)),
      way_parts way plan cuts is.2,
    )

    way_parts : (way : PlainWay) (plan : PlainPlan) (cuts : Cuts) → IsWay (kept_among extents results) plan cuts way → Owns (parts_in way)
    way_parts tree.Scan plan cuts is = tt
    way_parts (One r) plan cuts is = from_one _ _ (λ child. parts_own r child cuts) plan is
    way_parts (Two l r) plan cuts is = from_two _ _ (λ left right all. joined _ _ (parts_own l left (lefts left cuts) all.0) (parts_own r right (rights left cuts) all.1)) plan is
    way_parts (Read hit) plan cuts is = tt
    way_parts (Tail hit d) plan cuts is = from_tail _ _ (λ child old new. delta_parts d child old new) hit.cuts cuts plan is.1
    way_parts (LeftGrew hit d r) plan cuts is =
        from_sides _ _ (λ left right all. joined _ _ (delta_parts d left (lefts left hit.cuts) (lefts left cuts) all.1) (parts_own r right (rights left cuts) all.2)) plan is.1
    way_parts (RightGrew hit l d) plan cuts is =
        from_sides _ _ (λ left right all. joined _ _ (parts_own l left (lefts left cuts) all.1) (delta_parts d right (rights left hit.cuts) (rights left cuts) all.2)) plan is.1
    way_parts (BothGrew hit l rd ld r) plan cuts is =
        from_sides _ _ (λ left right all. joined _ _ (joined _ _ (joined _ _ (parts_own l left (lefts left hit.cuts) all.2)
        (delta_parts rd right (rights left hit.cuts) (rights left cuts) all.3))
        (delta_parts ld left (lefts left hit.cuts) (lefts left cuts) all.4)) (parts_own r right (rights left cuts) all.5)) plan is.1

    delta_parts : (d : PlainDelta) (plan : PlainPlan) (old new : Cuts) → IsDelta (kept_among extents results) plan old new d → Owns (parts_of_delta d)
    delta_parts (Change p o n way) plan old new is = delta_way_parts way plan old new is.3

    delta_way_parts : (way : PlainDeltaWay) (plan : PlainPlan) (old new : Cuts) → IsDeltaWay (kept_among extents results) plan old new way → Owns (parts_in_delta way)
    delta_way_parts Unchanged plan old new is = tt
    delta_way_parts NewRows plan old new is = tt
    delta_way_parts (OfChild d) plan old new is = from_delta_tail _ _ (λ child o n. delta_parts d child o n) old new plan is.1
    delta_way_parts (OfDistinct r d) plan old new is = joined _ _ (parts_own r plan old is.1) (from_distinct _ _ (λ child. delta_parts d child old new) plan is.2)
    delta_way_parts (OfJoin d r) plan old new is =
        from_sides _ _ (λ left right all. joined _ _ (delta_parts d left (lefts left old) (lefts left new) all.1) (parts_own r right (rights left new) all.2)) plan is.1
