-- The parts of a formed rewriting are formed, and stand over the inputs of its plan.
use Rattle.std.proofs.Common.{◌≡◌, sym, subst, ◌∙◌}
use Rattle.plan_core.specs.PlainPlan.{PlainPlan}
use Rattle.estimator.specs.Cuts.{Cuts}
use Rattle.rewrite_core.specs.declared.rewriting.Hit.{Hit}
use Rattle.rewrite_core.specs.IsRewriting.{IsRewriting, IsDelta, whichever}
use Rattle.rewrite_core.specs.PlainRewriting.{PlainRewriting, Node, PlainWay, One, Two, Tail, LeftGrew, RightGrew, BothGrew, PlainDelta, Change, OfChild, OfDistinct, OfJoin}
use Rattle.growth_laws.specs.Parts.{plan_at}
use Rattle.made_places.specs.Formed.{IsFormed, IsFormedWay, IsFormedDelta, delta_plan}
use Rattle.made_places.proofs.Shapes.{HasOne, HasTwo, HasTail, by_one, by_two, by_sides, by_tail, by_delta_tail, by_distinct}

pub plan_is : (r : PlainRewriting) (plan : PlainPlan) (cuts : Cuts) → IsRewriting whichever plan cuts r → plan_at r ≡ plan
plan_is (Node p c way) plan cuts is = is.0

pub delta_plan_is : (d : PlainDelta) (plan : PlainPlan) (old new : Cuts) → IsDelta whichever plan old new d → delta_plan d ≡ plan
delta_plan_is (Change p o n way) plan old new is = is.0

pub formed : (r : PlainRewriting) (plan : PlainPlan) (cuts : Cuts) → IsRewriting whichever plan cuts r → IsFormed r
formed r plan cuts is = (cuts, subst (λ q. IsRewriting whichever q cuts r) (sym (plan_is r plan cuts is)) is)

pub formed_delta : (d : PlainDelta) (plan : PlainPlan) (old new : Cuts) → IsDelta whichever plan old new d → IsFormedDelta d
formed_delta d plan old new is = (old, new, subst (λ q. IsDelta whichever q old new d) (sym (delta_plan_is d plan old new is)) is)

pub formed_way : (plan : PlainPlan) (cuts : Cuts) (way : PlainWay) → IsFormed (Node plan cuts way) → IsFormedWay plan way
formed_way plan cuts way is = (is.0, is.1.2)

-- ---- the inputs of a way

pub record OfOneInput (plan : PlainPlan) (r : PlainRewriting) : Type 0 where
  pub input : IsFormed r
  pub shape : HasOne plan (plan_at r)

pub record OfTwoInputs (plan : PlainPlan) (l r : PlainRewriting) : Type 0 where
  pub left : IsFormed l
  pub right : IsFormed r
  pub shape : HasTwo plan (plan_at l) (plan_at r)

pub record OfTailInput (plan : PlainPlan) (d : PlainDelta) : Type 0 where
  pub input : IsFormedDelta d
  pub shape : HasTail plan (delta_plan d)

pub record OfLeftGrown (plan : PlainPlan) (d : PlainDelta) (r : PlainRewriting) : Type 0 where
  pub left : IsFormedDelta d
  pub right : IsFormed r
  pub shape : HasTwo plan (delta_plan d) (plan_at r)

pub record OfRightGrown (plan : PlainPlan) (l : PlainRewriting) (d : PlainDelta) : Type 0 where
  pub left : IsFormed l
  pub right : IsFormedDelta d
  pub shape : HasTwo plan (plan_at l) (delta_plan d)

-- both inputs at both cuts
pub record OfBothGrown (plan : PlainPlan) (l : PlainRewriting) (rd ld : PlainDelta) (r : PlainRewriting) : Type 0 where
  pub of_left : IsFormed l
  pub of_right_delta : IsFormedDelta rd
  pub of_left_delta : IsFormedDelta ld
  pub of_right : IsFormed r
  pub shape : HasTwo plan (plan_at l) (plan_at r)
  pub same_left : delta_plan ld ≡ plan_at l
  pub same_right : delta_plan rd ≡ plan_at r

pub record OfDistinctInputs (plan : PlainPlan) (r : PlainRewriting) (d : PlainDelta) : Type 0 where
  pub of_old : IsFormed r
  pub of_child : IsFormedDelta d
  pub shape : HasOne plan (delta_plan d)
  pub same : plan_at r ≡ plan

module _ (plan : PlainPlan) where
  pub one_input : (r : PlainRewriting) → IsFormedWay plan (One r) → OfOneInput plan r
  one_input r is =
      by_one (OfOneInput plan r) _ plan
      (λ child made over. record { input = formed r child is.0 made; shape = subst (HasOne plan) (sym (plan_is r child is.0 made)) over }) is.1

  over_two : (l r left right : PlainPlan) → l ≡ left → r ≡ right → HasTwo plan left right → HasTwo plan l r
  over_two l r left right first second over = subst (λ q. HasTwo plan q r) (sym first) (subst (HasTwo plan left) (sym second) over)

  pub two_inputs : (l r : PlainRewriting) → IsFormedWay plan (Two l r) → OfTwoInputs plan l r
  two_inputs l r is =
      by_two (OfTwoInputs plan l r) _ plan
      (λ left right made over. record {
        left = formed l left _ made.0;
        right = formed r right _ made.1;
        shape = over_two (plan_at l) (plan_at r) left right (plan_is l left _ made.0) (plan_is r right _ made.1) over;
      }) is.1

  pub tail_input : (hit : Hit) (d : PlainDelta) → IsFormedWay plan (Tail hit d) → OfTailInput plan d
  tail_input hit d is =
      by_tail (OfTailInput plan d) (λ child old new. IsDelta whichever child old new d) hit.cuts is.0 plan
      (λ child o n made over. record { input = formed_delta d child o n made; shape = subst (HasTail plan) (sym (delta_plan_is d child o n made)) over }) is.1.1

  pub left_grown : (hit : Hit) (d : PlainDelta) (r : PlainRewriting) → IsFormedWay plan (LeftGrew hit d r) → OfLeftGrown plan d r
  left_grown hit d r is =
      by_sides (OfLeftGrown plan d r) _ plan
      (λ left right made over. record {
        left = formed_delta d left _ _ made.1;
        right = formed r right _ made.2;
        shape = over_two (delta_plan d) (plan_at r) left right (delta_plan_is d left _ _ made.1) (plan_is r right _ made.2) over;
      }) is.1.1

  pub right_grown : (hit : Hit) (l : PlainRewriting) (d : PlainDelta) → IsFormedWay plan (RightGrew hit l d) → OfRightGrown plan l d
  right_grown hit l d is =
      by_sides (OfRightGrown plan l d) _ plan
      (λ left right made over. record {
        left = formed l left _ made.1;
        right = formed_delta d right _ _ made.2;
        shape = over_two (plan_at l) (delta_plan d) left right (plan_is l left _ made.1) (delta_plan_is d right _ _ made.2) over;
      }) is.1.1

  pub both_grown : (hit : Hit) (l : PlainRewriting) (rd ld : PlainDelta) (r : PlainRewriting) → IsFormedWay plan (BothGrew hit l rd ld r) → OfBothGrown plan l rd ld r
  both_grown hit l rd ld r is =
      by_sides (OfBothGrown plan l rd ld r) _ plan
      (λ left right made over.
      let of_left = plan_is l left _ made.2 in
      let of_right = plan_is r right _ made.5 in
      record {
        of_left = formed l left _ made.2;
        of_right_delta = formed_delta rd right _ _ made.3;
        of_left_delta = formed_delta ld left _ _ made.4;
        of_right = formed r right _ made.5;
        shape = over_two (plan_at l) (plan_at r) left right of_left of_right over;
        same_left = delta_plan_is ld left _ _ made.4 ∙ sym of_left;
        same_right = delta_plan_is rd right _ _ made.3 ∙ sym of_right;
      }) is.1.1

  -- ---- the inputs of a delta

  module _ (old new : Cuts) where
    pub child_input : (d : PlainDelta) → IsFormedDelta (Change plan old new (OfChild d)) → OfTailInput plan d
    child_input d is =
        by_delta_tail (OfTailInput plan d) (λ child o n. IsDelta whichever child o n d) is.0 is.1 plan
        (λ child o n made over. record { input = formed_delta d child o n made; shape = subst (HasTail plan) (sym (delta_plan_is d child o n made)) over }) is.2.3.1

    pub distinct_inputs : (r : PlainRewriting) (d : PlainDelta) → IsFormedDelta (Change plan old new (OfDistinct r d)) → OfDistinctInputs plan r d
    distinct_inputs r d is =
        by_distinct (OfDistinctInputs plan r d) _ plan
        (λ child made over. record {
          of_old = formed r plan _ is.2.3.1;
          of_child = formed_delta d child _ _ made;
          shape = subst (HasOne plan) (sym (delta_plan_is d child _ _ made)) over;
          same = plan_is r plan _ is.2.3.1;
        }) is.2.3.2

    pub join_inputs : (d : PlainDelta) (r : PlainRewriting) → IsFormedDelta (Change plan old new (OfJoin d r)) → OfLeftGrown plan d r
    join_inputs d r is =
        by_sides (OfLeftGrown plan d r) _ plan
        (λ left right made over. record {
          left = formed_delta d left _ _ made.1;
          right = formed r right _ made.2;
          shape = over_two (delta_plan d) (plan_at r) left right (delta_plan_is d left _ _ made.1) (plan_is r right _ made.2) over;
        }) is.2.3.1
