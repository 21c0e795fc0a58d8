-- What each part of a node needs, and that what the node makes is fit.
use Rattle.std.proofs.Common.{◌≡◌, List, ◌++◌, reverse, IsSome, IfOk, Result, Ok, Err}
use Rattle.rows_core.specs.declared.overflow.Overflow.{Overflow}
use Rattle.plan_core.specs.PlainPlan.{PlainPlan}
use Rattle.plan_core.specs.PlanTyping.{Kinds, plan_kinds}
use Rattle.estimator.specs.Cuts.{Cuts}
use Rattle.rewrite_core.specs.declared.rewriting.Hit.{Hit}
use Rattle.rewrite_core.specs.PlainRewriting.{PlainRewriting, Node, One, Two, Tail, LeftGrew, RightGrew, BothGrew, PlainDelta, Change, OfChild, OfDistinct, OfJoin}
use Rattle.growth_laws.specs.Growth as laws
use Rattle.growth_laws.specs.Making.{made_of_one, made_of_two, made_of_grown, made_of_left, made_of_right, made_of_both, added_of_child, added_of_distinct, added_of_join}
use Rattle.growth_laws.specs.Parts.{plan_at}
use Rattle.growth_laws.specs.Pieces.{Piece, pieces_of, pieces_of_delta}
use Rattle.result_ops.specs.declared.made.Made.{Made}
use Rattle.result_ops.specs.declared.made.Added.{Added}
use Rattle.result_ops.specs.declared.refusal.MakeRefusal.{MakeRefusal}
use Rattle.result_ops.specs.Bounds.{IsBounded}
use Rattle.result_ops.specs.Fitting.{IsFit, FitRows, HasFitInput, HasFitInputs, OfPassed, OfGrown, IsReadable}
use Rattle.result_ops.specs.Steps.{made_of, added_of, Makes, Adds}
use Rattle.result_ops.proofs.FitLaws as fits
use Rattle.rewrite_core.specs.IsRewriting.{OfTwo, OfSides}
use Rattle.executor.specs.Evaluating.{IsReady, IsReadyWith, MakesFit, MakesFitWith, AddsFit}
use Rattle.executor.specs.Laws.{GivesTyped}
use Rattle.executor.specs.Loading.{Loads, AreFit}
use Rattle.executor.specs.Parts.{IsFormed, IsFormedDelta, delta_plan, pieces_behind}
use Rattle.executor.proofs.Loads.{fit_two, fit_four}
use Rattle.executor.proofs.PlanParts.{in_sides}
use Rattle.executor.proofs.TreeParts.{one_input, two_inputs, tail_input, left_inputs, right_inputs, both_inputs, child_input, distinct_inputs, join_inputs, one_fits, two_fit, tail_fits, left_fit, right_fit, both_fit, child_fits, distinct_fits, old_fits, join_fits}

abbrev pub FitTree : PlainRewriting → Loads → Loads → Result Made MakeRefusal → Type 0
FitTree r = MakesFit (plan_at r) (pieces_of r)

abbrev pub FitDelta : PlainDelta → Loads → Loads → Result Added MakeRefusal → Type 0
FitDelta d = AddsFit (delta_plan d) (pieces_of_delta d)

abbrev pub TreeReady : PlainRewriting → Loads → Type 0
TreeReady r stack = IsFormed r × IsReady (plan_at r) (pieces_of r) stack

abbrev pub DeltaReady : PlainDelta → Loads → Type 0
DeltaReady d stack = IsFormedDelta d × IsReady (delta_plan d) (pieces_of_delta d) stack

-- where a step made it, it is fit, and so is what is left
made_fits : (B : Made → Type 0) (p : Type 0) (plan : PlainPlan) (given : Result laws.Made Overflow) (result : Result Made MakeRefusal) → Makes p plan given result
    → ((made : Made) → given ≡ Ok (made_of made) → IsBounded plan made.kept → B made) → IfOk result B
made_fits B p plan given (Ok made) step f = f made step.0 step.2
made_fits B p plan given (Err e) step f = tt

added_fit : (B : Added → Type 0) (p : Type 0) (given : Result laws.Added Overflow) (result : Result Added MakeRefusal) → Adds p given result → ((added : Added) → given ≡ Ok (added_of added) → B added) → IfOk result B
added_fit B p given (Ok added) step f = f added step.0
added_fit B p given (Err e) step f = tt

-- ---- computed nodes

module _ (law : GivesTyped) (plan : PlainPlan) (cuts : Cuts) where
  module _ (r : PlainRewriting) (before mid : Loads) (formed : IsFormed (Node plan cuts (One r))) (ready : IsReady plan (pieces_of r) before) where
    pub one_ready : TreeReady r before
    one_ready = let child = one_input ready.0 plan cuts ready.2 r formed in (child.0, (ready.0, ready.1, child.1, ready.3))

    module _ (made : Made) (first : FitTree r before mid (Ok made)) where
      pub one_step : HasFitInput plan made.kept
      one_step = let child = one_input ready.0 plan cuts ready.2 r formed in (ready.0, ready.2, one_fits ready.0 plan cuts r made.kept formed (first ready.0 ready.1 child.1 ready.3).0)

      pub one_fit : (p : Type 0) (result : Result Made MakeRefusal) → Makes p plan (made_of_one plan (made_of made)) result → MakesFit plan (pieces_of r) before mid result
      one_fit p result step = λ schemas rest typed are.
          let child = one_input schemas plan cuts typed r formed in
          let part = first schemas rest child.1 are in
          made_fits _ p plan (made_of_one plan (made_of made)) result step
          (λ next is bounded. (fits.one_fit law schemas plan (made_of made) (made_of next) typed (one_fits schemas plan cuts r made.kept formed part.0) is bounded, part.1))

  module _ (l r : PlainRewriting) (before mid after : Loads) (formed : IsFormed (Node plan cuts (Two l r))) (ready : IsReady plan (pieces_of l ++ pieces_of r) before) where
    pub two_ready : TreeReady l before
    two_ready = let inputs = two_inputs ready.0 plan cuts ready.2 l r formed in (inputs.0.0, (ready.0, pieces_of r ++ ready.1, inputs.0.1, fit_two ready.0 (reverse before) (pieces_of l) (pieces_of r) ready.1 ready.3))

    module _ (a : Made) (first : FitTree l before mid (Ok a)) where
      pub two_ready_then : TreeReady r mid
      two_ready_then =
          let inputs = two_inputs ready.0 plan cuts ready.2 l r formed in
          (inputs.1.0, (ready.0, ready.1, inputs.1.1, (first ready.0 (pieces_of r ++ ready.1) inputs.0.1 (fit_two ready.0 (reverse before) (pieces_of l) (pieces_of r) ready.1 ready.3)).1))

      module _ (b : Made) (second : FitTree r mid after (Ok b)) where
        two_parts : (schemas : List Kinds) (rest : List Piece) → IsSome (plan_kinds schemas plan) → AreFit schemas ((pieces_of l ++ pieces_of r) ++ rest) (reverse before)
            → OfTwo (λ left right. IsFit schemas left a.kept × IsFit schemas right b.kept) plan × AreFit schemas rest (reverse after)
        two_parts schemas rest typed are =
            let inputs = two_inputs schemas plan cuts typed l r formed in
            let part = first schemas (pieces_of r ++ rest) inputs.0.1 (fit_two schemas (reverse before) (pieces_of l) (pieces_of r) rest are) in
            let next = second schemas rest inputs.1.1 part.1 in
            (two_fit schemas plan cuts l r a.kept b.kept formed part.0 next.0, next.1)

        pub two_step : HasFitInputs plan a.kept b.kept
        two_step = (ready.0, ready.2, (two_parts ready.0 ready.1 ready.2 ready.3).0)

        pub two_fits : (p : Type 0) (result : Result Made MakeRefusal) → Makes p plan (made_of_two plan (made_of a) (made_of b)) result → MakesFit plan (pieces_of l ++ pieces_of r) before after result
        two_fits p result step = λ schemas rest typed are.
            let parts = two_parts schemas rest typed are in
            made_fits _ p plan (made_of_two plan (made_of a) (made_of b)) result step (λ next is bounded. (fits.two_fit law schemas plan (made_of a) (made_of b) (made_of next) typed parts.0 is bounded, parts.1))

-- ---- grown nodes

module _ (law : GivesTyped) (plan : PlainPlan) (cuts : Cuts) (hit : Hit) (old : Made) (before : Loads) where
  module _ (d : PlainDelta) (mid : Loads) (formed : IsFormed (Node plan cuts (Tail hit d))) (ready : IsReadyWith plan old (pieces_of_delta d) before) where
    pub tail_ready : DeltaReady d before
    tail_ready = let child = tail_input ready.0 plan cuts ready.2 hit d formed in (child.0, (ready.0, ready.1, child.1, ready.5))

    module _ (added : Added) (first : FitDelta d before mid (Ok added)) where
      pub tail_step : (schemas : List Kinds) × IsSome (plan_kinds schemas plan) × IsFit schemas plan old.kept × OfGrown (FitRows schemas added.rows.items) plan
      tail_step =
          let child = tail_input ready.0 plan cuts ready.2 hit d formed in
          (ready.0, ready.2, ready.3, tail_fits ready.0 plan cuts hit d added.rows.items formed (first ready.0 ready.1 child.1 ready.5).0)

      pub tail_fit : (p : Type 0) (result : Result Made MakeRefusal) → Makes p plan (made_of_grown plan (made_of old) (added_of added)) result → MakesFitWith plan old (pieces_of_delta d) before mid result
      tail_fit p result step = λ schemas rest typed fit ordered are.
          let child = tail_input schemas plan cuts typed hit d formed in
          let part = first schemas rest child.1 are in
          made_fits _ p plan (made_of_grown plan (made_of old) (added_of added)) result step
          (λ next is bounded. (fits.grown_fit law schemas plan (made_of old) (made_of next) (added_of added) typed fit (tail_fits schemas plan cuts hit d added.rows.items formed part.0) is bounded, part.1))

  module _ (d : PlainDelta) (r : PlainRewriting) (mid after : Loads) (formed : IsFormed (Node plan cuts (LeftGrew hit d r))) (ready : IsReadyWith plan old (pieces_of_delta d ++ pieces_of r) before) where
    pub left_ready : DeltaReady d before
    left_ready = let inputs = left_inputs ready.0 plan cuts ready.2 hit d r formed in (inputs.0.0, (ready.0, pieces_of r ++ ready.1, inputs.0.1, fit_two ready.0 (reverse before) (pieces_of_delta d) (pieces_of r) ready.1 ready.5))

    module _ (added : Added) (first : FitDelta d before mid (Ok added)) where
      pub left_ready_then : TreeReady r mid
      left_ready_then =
          let inputs = left_inputs ready.0 plan cuts ready.2 hit d r formed in
          (inputs.1.0, (ready.0, ready.1, inputs.1.1, (first ready.0 (pieces_of r ++ ready.1) inputs.0.1 (fit_two ready.0 (reverse before) (pieces_of_delta d) (pieces_of r) ready.1 ready.5)).1))

      module _ (made : Made) (second : FitTree r mid after (Ok made)) where
        left_parts : (schemas : List Kinds) (rest : List Piece) → IsSome (plan_kinds schemas plan) → AreFit schemas ((pieces_of_delta d ++ pieces_of r) ++ rest) (reverse before)
            → OfSides (λ left right. FitRows schemas added.rows.items left × IsFit schemas right made.kept) plan × AreFit schemas rest (reverse after)
        left_parts schemas rest typed are =
            let inputs = left_inputs schemas plan cuts typed hit d r formed in
            let part = first schemas (pieces_of r ++ rest) inputs.0.1 (fit_two schemas (reverse before) (pieces_of_delta d) (pieces_of r) rest are) in
            let next = second schemas rest inputs.1.1 part.1 in
            (left_fit schemas plan cuts hit d r added.rows.items made.kept formed part.0 next.0, next.1)

        pub left_step : OfSides (λ left right. IsReadable right made.kept) plan
        left_step = in_sides _ (λ left right. IsReadable right made.kept) (λ left right all. (all.1.form_is, all.1.bounded)) plan (left_parts ready.0 ready.1 ready.2 ready.5).0

        pub left_fits : (p : Type 0) (result : Result Made MakeRefusal) → Makes p plan (made_of_left plan (made_of old) (added_of added) (made_of made)) result → MakesFitWith plan old (pieces_of_delta d ++ pieces_of r) before after result
        left_fits p result step = λ schemas rest typed fit ordered are.
            let parts = left_parts schemas rest typed are in
            made_fits _ p plan (made_of_left plan (made_of old) (added_of added) (made_of made)) result step
            (λ next is bounded. (fits.left_fit law schemas plan (made_of old) (made_of made) (made_of next) (added_of added) typed fit parts.0 is bounded, parts.1))

  module _ (l : PlainRewriting) (d : PlainDelta) (mid after : Loads) (formed : IsFormed (Node plan cuts (RightGrew hit l d))) (ready : IsReadyWith plan old (pieces_of l ++ pieces_of_delta d) before) where
    pub right_ready : TreeReady l before
    right_ready = let inputs = right_inputs ready.0 plan cuts ready.2 hit l d formed in (inputs.0.0, (ready.0, pieces_of_delta d ++ ready.1, inputs.0.1, fit_two ready.0 (reverse before) (pieces_of l) (pieces_of_delta d) ready.1 ready.5))

    module _ (made : Made) (first : FitTree l before mid (Ok made)) where
      pub right_ready_then : DeltaReady d mid
      right_ready_then =
          let inputs = right_inputs ready.0 plan cuts ready.2 hit l d formed in
          (inputs.1.0, (ready.0, ready.1, inputs.1.1, (first ready.0 (pieces_of_delta d ++ ready.1) inputs.0.1 (fit_two ready.0 (reverse before) (pieces_of l) (pieces_of_delta d) ready.1 ready.5)).1))

      module _ (added : Added) (second : FitDelta d mid after (Ok added)) where
        right_parts : (schemas : List Kinds) (rest : List Piece) → IsSome (plan_kinds schemas plan) → AreFit schemas ((pieces_of l ++ pieces_of_delta d) ++ rest) (reverse before)
            → OfSides (λ left right. IsFit schemas left made.kept × FitRows schemas added.rows.items right) plan × AreFit schemas rest (reverse after)
        right_parts schemas rest typed are =
            let inputs = right_inputs schemas plan cuts typed hit l d formed in
            let part = first schemas (pieces_of_delta d ++ rest) inputs.0.1 (fit_two schemas (reverse before) (pieces_of l) (pieces_of_delta d) rest are) in
            let next = second schemas rest inputs.1.1 part.1 in
            (right_fit schemas plan cuts hit l d made.kept added.rows.items formed part.0 next.0, next.1)

        pub right_step : OfSides (λ left right. IsReadable left made.kept) plan
        right_step = in_sides _ (λ left right. IsReadable left made.kept) (λ left right all. (all.0.form_is, all.0.bounded)) plan (right_parts ready.0 ready.1 ready.2 ready.5).0

        pub right_fits : (p : Type 0) (result : Result Made MakeRefusal) → Makes p plan (made_of_right plan (made_of old) (made_of made) (added_of added)) result → MakesFitWith plan old (pieces_of l ++ pieces_of_delta d) before after result
        right_fits p result step = λ schemas rest typed fit ordered are.
            let parts = right_parts schemas rest typed are in
            made_fits _ p plan (made_of_right plan (made_of old) (made_of made) (added_of added)) result step
            (λ next is bounded. (fits.right_fit law schemas plan (made_of old) (made_of made) (made_of next) (added_of added) typed fit ordered parts.0 is bounded, parts.1))

  module _ (l : PlainRewriting) (rd ld : PlainDelta) (r : PlainRewriting) (a b c after : Loads) (formed : IsFormed (Node plan cuts (BothGrew hit l rd ld r)))
      (ready : IsReadyWith plan old (pieces_behind (BothGrew hit l rd ld r)) before) where
    all_fit : (schemas : List Kinds) (rest : List Piece) → AreFit schemas (pieces_behind (BothGrew hit l rd ld r) ++ rest) (reverse before)
        → AreFit schemas (pieces_of l ++ (pieces_of_delta rd ++ (pieces_of_delta ld ++ (pieces_of r ++ rest)))) (reverse before)
    all_fit schemas rest are = fit_four schemas (reverse before) (pieces_of l) (pieces_of_delta rd) (pieces_of_delta ld) (pieces_of r) rest are

    pub both_ready : TreeReady l before
    both_ready = let inputs = both_inputs ready.0 plan cuts ready.2 hit l rd ld r formed in (inputs.0.0, (ready.0, _, inputs.0.1, all_fit ready.0 ready.1 ready.5))

    module _ (old_left : Made) (first : FitTree l before a (Ok old_left)) where
      pub both_ready_second : DeltaReady rd a
      both_ready_second =
          let inputs = both_inputs ready.0 plan cuts ready.2 hit l rd ld r formed in
          (inputs.1.0, (ready.0, _, inputs.1.1, (first ready.0 _ inputs.0.1 (all_fit ready.0 ready.1 ready.5)).1))

      module _ (right_added : Added) (second : FitDelta rd a b (Ok right_added)) where
        pub both_ready_third : DeltaReady ld b
        both_ready_third =
            let inputs = both_inputs ready.0 plan cuts ready.2 hit l rd ld r formed in
            let one = first ready.0 _ inputs.0.1 (all_fit ready.0 ready.1 ready.5) in
            (inputs.2.0, (ready.0, _, inputs.2.1, (second ready.0 _ inputs.1.1 one.1).1))

        module _ (left_added : Added) (third : FitDelta ld b c (Ok left_added)) where
          pub both_ready_last : TreeReady r c
          both_ready_last =
              let inputs = both_inputs ready.0 plan cuts ready.2 hit l rd ld r formed in
              let one = first ready.0 _ inputs.0.1 (all_fit ready.0 ready.1 ready.5) in
              let two = second ready.0 _ inputs.1.1 one.1 in
              (inputs.3.0, (ready.0, ready.1, inputs.3.1, (third ready.0 _ inputs.2.1 two.1).1))

          module _ (right : Made) (last : FitTree r c after (Ok right)) where
            both_parts : (schemas : List Kinds) (rest : List Piece) → IsSome (plan_kinds schemas plan) → AreFit schemas (pieces_behind (BothGrew hit l rd ld r) ++ rest) (reverse before)
                → OfSides (λ first second. IsFit schemas first old_left.kept × FitRows schemas right_added.rows.items second × FitRows schemas left_added.rows.items first × IsFit schemas second right.kept) plan
                × AreFit schemas rest (reverse after)
            both_parts schemas rest typed are =
                let inputs = both_inputs schemas plan cuts typed hit l rd ld r formed in
                let one = first schemas _ inputs.0.1 (all_fit schemas rest are) in
                let two = second schemas _ inputs.1.1 one.1 in
                let three = third schemas _ inputs.2.1 two.1 in
                let four = last schemas rest inputs.3.1 three.1 in
                (both_fit schemas plan cuts hit l rd ld r old_left.kept right_added.rows.items left_added.rows.items right.kept formed one.0 two.0 three.0 four.0, four.1)

            pub both_step_left : OfSides (λ first second. IsReadable first old_left.kept) plan
            both_step_left = in_sides _ (λ first second. IsReadable first old_left.kept) (λ first second all. (all.0.form_is, all.0.bounded)) plan (both_parts ready.0 ready.1 ready.2 ready.5).0

            pub both_step_right : OfSides (λ first second. IsReadable second right.kept) plan
            both_step_right = in_sides _ (λ first second. IsReadable second right.kept) (λ first second all. (all.3.form_is, all.3.bounded)) plan (both_parts ready.0 ready.1 ready.2 ready.5).0

            pub both_fits : (p : Type 0) (result : Result Made MakeRefusal) → Makes p plan (made_of_both plan (made_of old) (made_of old_left) (added_of right_added) (added_of left_added) (made_of right)) result
                → MakesFitWith plan old (pieces_behind (BothGrew hit l rd ld r)) before after result
            both_fits p result step = λ schemas rest typed fit ordered are.
                let parts = both_parts schemas rest typed are in
                made_fits _ p plan (made_of_both plan (made_of old) (made_of old_left) (added_of right_added) (added_of left_added) (made_of right)) result step
                (λ next is bounded. (fits.both_fit law schemas plan (made_of old) (made_of old_left) (made_of right) (made_of next) (added_of right_added) (added_of left_added) typed fit ordered parts.0 is bounded, parts.1))

-- ---- deltas

module _ (law : GivesTyped) (plan : PlainPlan) (old new : Cuts) (before mid : Loads) where
  module _ (d : PlainDelta) (formed : IsFormedDelta (Change plan old new (OfChild d))) (ready : IsReady plan (pieces_of_delta d) before) where
    pub child_ready : DeltaReady d before
    child_ready = let child = child_input ready.0 plan old new ready.2 d formed in (child.0, (ready.0, ready.1, child.1, ready.3))

    module _ (added : Added) (first : FitDelta d before mid (Ok added)) where
      pub child_step : (schemas : List Kinds) × IsSome (plan_kinds schemas plan) × OfPassed (FitRows schemas added.rows.items) plan
      child_step =
          let child = child_input ready.0 plan old new ready.2 d formed in
          (ready.0, ready.2, child_fits ready.0 plan old new d added.rows.items formed (first ready.0 ready.1 child.1 ready.3).0)

      pub child_fit : (p : Type 0) (result : Result Added MakeRefusal) → Adds p (added_of_child plan (added_of added)) result → AddsFit plan (pieces_of_delta d) before mid result
      child_fit p result step = λ schemas rest typed are.
          let child = child_input schemas plan old new typed d formed in
          let part = first schemas rest child.1 are in
          added_fit _ p (added_of_child plan (added_of added)) result step
          (λ next is. (fits.child_fit law schemas plan (added_of added) (added_of next) typed (child_fits schemas plan old new d added.rows.items formed part.0) is, part.1))

  module _ (r : PlainRewriting) (d : PlainDelta) (after : Loads) (formed : IsFormedDelta (Change plan old new (OfDistinct r d))) (ready : IsReady plan (pieces_of r ++ pieces_of_delta d) before) where
    pub distinct_ready : TreeReady r before
    distinct_ready =
        let inputs = distinct_inputs ready.0 plan old new ready.2 r d formed in (inputs.0.0, (ready.0, pieces_of_delta d ++ ready.1, inputs.0.1, fit_two ready.0 (reverse before) (pieces_of r) (pieces_of_delta d) ready.1 ready.3))

    module _ (made : Made) (first : FitTree r before mid (Ok made)) where
      distinct_first : IsFit ready.0 (plan_at r) made.kept × AreFit ready.0 (pieces_of_delta d ++ ready.1) (reverse mid)
      distinct_first =
          let inputs = distinct_inputs ready.0 plan old new ready.2 r d formed in first ready.0 (pieces_of_delta d ++ ready.1) inputs.0.1 (fit_two ready.0 (reverse before) (pieces_of r) (pieces_of_delta d) ready.1 ready.3)

      pub distinct_ready_then : DeltaReady d mid
      distinct_ready_then = let inputs = distinct_inputs ready.0 plan old new ready.2 r d formed in (inputs.1.0, (ready.0, ready.1, inputs.1.1, distinct_first.1))

      pub distinct_step : IsReadable plan made.kept
      distinct_step = let fit = old_fits ready.0 plan old new r d made.kept formed distinct_first.0 in (fit.form_is, fit.bounded)

      pub distinct_fit : (added : Added) → FitDelta d mid after (Ok added) → (p : Type 0) (result : Result Added MakeRefusal) → Adds p (added_of_distinct (made_of made) (added_of added)) result
          → AddsFit plan (pieces_of r ++ pieces_of_delta d) before after result
      distinct_fit added second p result step = λ schemas rest typed are.
          let inputs = distinct_inputs schemas plan old new typed r d formed in
          let part = first schemas (pieces_of_delta d ++ rest) inputs.0.1 (fit_two schemas (reverse before) (pieces_of r) (pieces_of_delta d) rest are) in
          let next = second schemas rest inputs.1.1 part.1 in
          added_fit _ p (added_of_distinct (made_of made) (added_of added)) result step
          (λ more is. (fits.distinct_fit law schemas plan (made_of made) (added_of added) (added_of more) (distinct_fits schemas plan old new r d added.rows.items formed next.0) is, next.1))

  module _ (d : PlainDelta) (r : PlainRewriting) (after : Loads) (formed : IsFormedDelta (Change plan old new (OfJoin d r))) (ready : IsReady plan (pieces_of_delta d ++ pieces_of r) before) where
    pub join_ready : DeltaReady d before
    join_ready = let inputs = join_inputs ready.0 plan old new ready.2 d r formed in (inputs.0.0, (ready.0, pieces_of r ++ ready.1, inputs.0.1, fit_two ready.0 (reverse before) (pieces_of_delta d) (pieces_of r) ready.1 ready.3))

    module _ (added : Added) (first : FitDelta d before mid (Ok added)) where
      pub join_ready_then : TreeReady r mid
      join_ready_then =
          let inputs = join_inputs ready.0 plan old new ready.2 d r formed in
          (inputs.1.0, (ready.0, ready.1, inputs.1.1, (first ready.0 (pieces_of r ++ ready.1) inputs.0.1 (fit_two ready.0 (reverse before) (pieces_of_delta d) (pieces_of r) ready.1 ready.3)).1))

      module _ (made : Made) (second : FitTree r mid after (Ok made)) where
        join_parts : (schemas : List Kinds) (rest : List Piece) → IsSome (plan_kinds schemas plan) → AreFit schemas ((pieces_of_delta d ++ pieces_of r) ++ rest) (reverse before)
            → OfSides (λ left right. FitRows schemas added.rows.items left × IsFit schemas right made.kept) plan × AreFit schemas rest (reverse after)
        join_parts schemas rest typed are =
            let inputs = join_inputs schemas plan old new typed d r formed in
            let part = first schemas (pieces_of r ++ rest) inputs.0.1 (fit_two schemas (reverse before) (pieces_of_delta d) (pieces_of r) rest are) in
            let next = second schemas rest inputs.1.1 part.1 in
            (join_fits schemas plan old new d r added.rows.items made.kept formed part.0 next.0, next.1)

        pub join_step : OfSides (λ left right. IsReadable right made.kept) plan
        join_step = in_sides _ (λ left right. IsReadable right made.kept) (λ left right all. (all.1.form_is, all.1.bounded)) plan (join_parts ready.0 ready.1 ready.2 ready.3).0

        pub join_fit : (p : Type 0) (result : Result Added MakeRefusal) → Adds p (added_of_join plan (added_of added) (made_of made)) result → AddsFit plan (pieces_of_delta d ++ pieces_of r) before after result
        join_fit p result step = λ schemas rest typed are.
            let parts = join_parts schemas rest typed are in
            added_fit _ p (added_of_join plan (added_of added) (made_of made)) result step
            (λ more is. (fits.join_fit law schemas plan (added_of added) (added_of more) (made_of made) typed parts.0 is, parts.1))
