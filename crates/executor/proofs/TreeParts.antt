-- The inputs of a node are formed and have a typing, and what is fit for them is fit for the plan's inputs.
use Rattle.std.proofs.Common.{◌≡◌, refl, sym, subst, List}
use Rattle.row_blob.specs.declared.kept.Kept.{Kept}
use Rattle.plan_core.specs.Columns.{Rows}
use Rattle.plan_core.specs.PlainPlan.{PlainPlan}
use Rattle.plan_core.specs.PlanTyping.{Kinds}
use Rattle.estimator.specs.Cuts.{Cuts}
use Rattle.rewrite_core.specs.declared.rewriting.Hit.{Hit}
use Rattle.rewrite_core.specs.IsRewriting.{IsRewriting, IsWay, IsDelta, IsDeltaWay, OfOne, OfTwo, OfSides, OfDistinctChild, whichever}
use Rattle.rewrite_core.specs.PlainRewriting.{PlainRewriting, Node, One, Two, Tail, LeftGrew, RightGrew, BothGrew, PlainDelta, Change, OfChild, OfDistinct, OfJoin}
use Rattle.growth_laws.specs.Parts.{plan_at}
use Rattle.growth_laws.proofs.PieceResults.{subst_both}
use Rattle.result_ops.specs.Fitting.{IsFit, FitRows, OfPassed, OfGrown}
use Rattle.made_places.proofs.Formed.{plan_is}
use Rattle.executor.specs.Parts.{IsFormed, IsFormedDelta, delta_plan}
use Rattle.executor.proofs.PlanParts.{IsTypedOver, in_one, in_two, in_sides, in_distinct, in_grown, in_passed, tail_as, passed_as, from_typed_one, from_typed_two, from_typed_sides, from_typed_distinct, from_typed_tail}

pub formed : (r : PlainRewriting) (plan : PlainPlan) (cuts : Cuts) → IsRewriting whichever plan cuts r → IsFormed r
formed (Node p c way) plan cuts is = (refl, refl, subst_both (λ q d. IsWay whichever q d way) plan p cuts c (sym is.0) (sym is.1) is.2)

pub formed_delta : (d : PlainDelta) (plan : PlainPlan) (old new : Cuts) → IsDelta whichever plan old new d → IsFormedDelta d
formed_delta (Change p o n way) plan old new is = (
  refl,
  refl,
  refl,
  subst (λ q. IsDeltaWay whichever q o n way) (sym is.0) (subst_both (λ o n. IsDeltaWay whichever plan o n way) old o new n (sym is.1) (sym is.2) is.3),
)

pub delta_plan_is : (d : PlainDelta) (plan : PlainPlan) (old new : Cuts) → IsDelta whichever plan old new d → delta_plan d ≡ plan
delta_plan_is (Change p o n way) plan old new is = is.0

module _ (schemas : List Kinds) where
  -- a formed input with a typing
  abbrev pub IsInput : PlainRewriting → Type 0
  IsInput r = IsFormed r × IsTypedOver schemas (plan_at r)

  abbrev pub IsDeltaInput : PlainDelta → Type 0
  IsDeltaInput d = IsFormedDelta d × IsTypedOver schemas (delta_plan d)

  input : (r : PlainRewriting) (plan : PlainPlan) (cuts : Cuts) → IsRewriting whichever plan cuts r → IsTypedOver schemas plan → IsInput r
  input r plan cuts is typed = (formed r plan cuts is, subst (IsTypedOver schemas) (sym (plan_is r plan cuts is)) typed)

  delta_input : (d : PlainDelta) (plan : PlainPlan) (old new : Cuts) → IsDelta whichever plan old new d → IsTypedOver schemas plan → IsDeltaInput d
  delta_input d plan old new is typed = (formed_delta d plan old new is, subst (IsTypedOver schemas) (sym (delta_plan_is d plan old new is)) typed)

  module _ (plan : PlainPlan) (cuts : Cuts) (typed : IsTypedOver schemas plan) where
    pub one_input : (r : PlainRewriting) → IsFormed (Node plan cuts (One r)) → IsInput r
    one_input r is = from_typed_one schemas (IsInput r) plan typed _ (λ child. input r child cuts) is.2

    pub two_inputs : (l r : PlainRewriting) → IsFormed (Node plan cuts (Two l r)) → IsInput l × IsInput r
    two_inputs l r is =
        from_typed_two schemas (IsInput l × IsInput r) plan typed _ (λ left right all first second. (input l left _ all.0 first, input r right _ all.1 second)) is.2

    pub tail_input : (hit : Hit) (d : PlainDelta) → IsFormed (Node plan cuts (Tail hit d)) → IsDeltaInput d
    tail_input hit d is = from_typed_tail schemas (IsDeltaInput d) plan typed (λ child old new. IsDelta whichever child old new d) hit.cuts cuts (λ child old new. delta_input d child old new) (tail_as (λ child old new. IsDelta whichever child old new d) hit.cuts cuts plan is.2.1)

    pub left_inputs : (hit : Hit) (d : PlainDelta) (r : PlainRewriting) → IsFormed (Node plan cuts (LeftGrew hit d r)) → IsDeltaInput d × IsInput r
    left_inputs hit d r is =
        from_typed_sides schemas (IsDeltaInput d × IsInput r) plan typed _ (λ left right all first second. (delta_input d left _ _ all.1 first, input r right _ all.2 second)) is.2.1

    pub right_inputs : (hit : Hit) (l : PlainRewriting) (d : PlainDelta) → IsFormed (Node plan cuts (RightGrew hit l d)) → IsInput l × IsDeltaInput d
    right_inputs hit l d is =
        from_typed_sides schemas (IsInput l × IsDeltaInput d) plan typed _ (λ left right all first second. (input l left _ all.1 first, delta_input d right _ _ all.2 second)) is.2.1

    pub both_inputs : (hit : Hit) (l : PlainRewriting) (rd ld : PlainDelta) (r : PlainRewriting) → IsFormed (Node plan cuts (BothGrew hit l rd ld r))
        → IsInput l × IsDeltaInput rd × IsDeltaInput ld × IsInput r
    both_inputs hit l rd ld r is =
        from_typed_sides schemas (IsInput l × IsDeltaInput rd × IsDeltaInput ld × IsInput r) plan typed _
        (λ left right all first second. (input l left _ all.2 first, delta_input rd right _ _ all.3 second, delta_input ld left _ _ all.4 first, input r right _ all.5 second)) is.2.1

  module _ (plan : PlainPlan) (old new : Cuts) (typed : IsTypedOver schemas plan) where
    pub child_input : (d : PlainDelta) → IsFormedDelta (Change plan old new (OfChild d)) → IsDeltaInput d
    child_input d is = from_typed_tail schemas (IsDeltaInput d) plan typed (λ child o n. IsDelta whichever child o n d) old new (λ child o n. delta_input d child o n) (passed_as (λ child o n. IsDelta whichever child o n d) old new plan is.3.1)

    pub distinct_inputs : (r : PlainRewriting) (d : PlainDelta) → IsFormedDelta (Change plan old new (OfDistinct r d)) → IsInput r × IsDeltaInput d
    distinct_inputs r d is = (
      input r plan old is.3.1 typed,
      from_typed_distinct schemas (IsDeltaInput d) plan typed _ (λ child. delta_input d child old new) is.3.2,
    )

    pub join_inputs : (d : PlainDelta) (r : PlainRewriting) → IsFormedDelta (Change plan old new (OfJoin d r)) → IsDeltaInput d × IsInput r
    join_inputs d r is =
        from_typed_sides schemas (IsDeltaInput d × IsInput r) plan typed _ (λ left right all first second. (delta_input d left _ _ all.1 first, input r right _ all.2 second)) is.3.1

  -- ---- what is fit for a part is fit for the input

  fit : (r : PlainRewriting) (plan : PlainPlan) (cuts : Cuts) (form : Kept) → IsFit schemas (plan_at r) form → IsRewriting whichever plan cuts r → IsFit schemas plan form
  fit r plan cuts form has is = subst (λ q. IsFit schemas q form) (plan_is r plan cuts is) has

  fit_rows : (d : PlainDelta) (plan : PlainPlan) (old new : Cuts) (rows : Rows) → FitRows schemas rows (delta_plan d) → IsDelta whichever plan old new d → FitRows schemas rows plan
  fit_rows d plan old new rows has is = subst (FitRows schemas rows) (delta_plan_is d plan old new is) has

  module _ (plan : PlainPlan) (cuts : Cuts) where
    pub one_fits : (r : PlainRewriting) (form : Kept) → IsFormed (Node plan cuts (One r)) → IsFit schemas (plan_at r) form → OfOne (λ child. IsFit schemas child form) plan
    one_fits r form is has = in_one _ (λ child. IsFit schemas child form) (λ child. fit r child cuts form has) plan is.2

    pub two_fit : (l r : PlainRewriting) (first second : Kept) → IsFormed (Node plan cuts (Two l r)) → IsFit schemas (plan_at l) first → IsFit schemas (plan_at r) second
        → OfTwo (λ left right. IsFit schemas left first × IsFit schemas right second) plan
    two_fit l r first second is has also =
        in_two _ (λ left right. IsFit schemas left first × IsFit schemas right second) (λ left right all. (fit l left _ first has all.0, fit r right _ second also all.1)) plan is.2

    pub tail_fits : (hit : Hit) (d : PlainDelta) (rows : Rows) → IsFormed (Node plan cuts (Tail hit d)) → FitRows schemas rows (delta_plan d) → OfGrown (FitRows schemas rows) plan
    tail_fits hit d rows is has = in_grown _ (FitRows schemas rows) hit.cuts cuts (λ child old new. fit_rows d child old new rows has) plan is.2.1

    pub left_fit : (hit : Hit) (d : PlainDelta) (r : PlainRewriting) (rows : Rows) (form : Kept) → IsFormed (Node plan cuts (LeftGrew hit d r)) → FitRows schemas rows (delta_plan d) → IsFit schemas (plan_at r) form
        → OfSides (λ left right. FitRows schemas rows left × IsFit schemas right form) plan
    left_fit hit d r rows form is has also =
        in_sides _ (λ left right. FitRows schemas rows left × IsFit schemas right form) (λ left right all. (fit_rows d left _ _ rows has all.1, fit r right _ form also all.2)) plan is.2.1

    pub right_fit : (hit : Hit) (l : PlainRewriting) (d : PlainDelta) (form : Kept) (rows : Rows) → IsFormed (Node plan cuts (RightGrew hit l d)) → IsFit schemas (plan_at l) form → FitRows schemas rows (delta_plan d)
        → OfSides (λ left right. IsFit schemas left form × FitRows schemas rows right) plan
    right_fit hit l d form rows is has also =
        in_sides _ (λ left right. IsFit schemas left form × FitRows schemas rows right) (λ left right all. (fit l left _ form has all.1, fit_rows d right _ _ rows also all.2)) plan is.2.1

    pub both_fit : (hit : Hit) (l : PlainRewriting) (rd ld : PlainDelta) (r : PlainRewriting) (first : Kept) (right_rows left_rows : Rows) (second : Kept) → IsFormed (Node plan cuts (BothGrew hit l rd ld r))
        → IsFit schemas (plan_at l) first → FitRows schemas right_rows (delta_plan rd) → FitRows schemas left_rows (delta_plan ld) → IsFit schemas (plan_at r) second
        → OfSides (λ left right. IsFit schemas left first × FitRows schemas right_rows right × FitRows schemas left_rows left × IsFit schemas right second) plan
    both_fit hit l rd ld r first right_rows left_rows second is a b c e =
        in_sides _ (λ left right. IsFit schemas left first × FitRows schemas right_rows right × FitRows schemas left_rows left × IsFit schemas right second)
        (λ left right all. (fit l left _ first a all.2, fit_rows rd right _ _ right_rows b all.3, fit_rows ld left _ _ left_rows c all.4, fit r right _ second e all.5)) plan is.2.1

  module _ (plan : PlainPlan) (old new : Cuts) where
    pub child_fits : (d : PlainDelta) (rows : Rows) → IsFormedDelta (Change plan old new (OfChild d)) → FitRows schemas rows (delta_plan d) → OfPassed (FitRows schemas rows) plan
    child_fits d rows is has = in_passed _ (FitRows schemas rows) old new (λ child o n. fit_rows d child o n rows has) plan is.3.1

    pub distinct_fits : (r : PlainRewriting) (d : PlainDelta) (rows : Rows) → IsFormedDelta (Change plan old new (OfDistinct r d)) → FitRows schemas rows (delta_plan d) → OfDistinctChild (FitRows schemas rows) plan
    distinct_fits r d rows is has = in_distinct _ (FitRows schemas rows) (λ child. fit_rows d child _ _ rows has) plan is.3.2

    pub old_fits : (r : PlainRewriting) (d : PlainDelta) (form : Kept) → IsFormedDelta (Change plan old new (OfDistinct r d)) → IsFit schemas (plan_at r) form → IsFit schemas plan form
    old_fits r d form is has = fit r plan old form has is.3.1

    pub join_fits : (d : PlainDelta) (r : PlainRewriting) (rows : Rows) (form : Kept) → IsFormedDelta (Change plan old new (OfJoin d r)) → FitRows schemas rows (delta_plan d) → IsFit schemas (plan_at r) form
        → OfSides (λ left right. FitRows schemas rows left × IsFit schemas right form) plan
    join_fits d r rows form is has also =
        in_sides _ (λ left right. FitRows schemas rows left × IsFit schemas right form) (λ left right all. (fit_rows d left _ _ rows has all.1, fit r right _ form also all.2)) plan is.3.1
