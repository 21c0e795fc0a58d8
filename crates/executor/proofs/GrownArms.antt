-- What is made of an earlier result and of what came since: what each part needs, and what is answered.
use Rattle.std.proofs.Common.{◌≡◌, sym, subst, ◌+◌, ◌≤◌, List, ◌++◌, IsSome, Result, Ok, Err}
use Rattle.plan_core.specs.PlainPlan.{PlainPlan}
use Rattle.plan_core.specs.PlanTyping.{Kinds, plan_kinds}
use Rattle.estimator.specs.Cuts.{Cuts}
use Rattle.rewrite_core.specs.declared.rewriting.Hit.{Hit}
use Rattle.rewrite_core.specs.IsRewriting.{OfSides}
use Rattle.rewrite_core.specs.PlainRewriting.{PlainRewriting, Node, PlainWay, Tail, LeftGrew, RightGrew, BothGrew, PlainDelta}
use Rattle.growth_laws.specs.Making.{taken_in_of, made_of_grown, made_of_left, made_of_right, made_of_both}
use Rattle.growth_laws.specs.Pieces.{pieces_of, pieces_of_delta}
use Rattle.result_ops.specs.declared.made.Made.{Made}
use Rattle.result_ops.specs.declared.made.Added.{Added}
use Rattle.result_ops.specs.declared.refusal.MakeRefusal.{MakeRefusal}
use Rattle.result_ops.specs.Bounds.{limit}
use Rattle.result_ops.specs.Fitting.{IsFit, FitRows, OfGrown, IsReadable}
use Rattle.result_ops.specs.Steps.{made_of, added_of, Makes, MakesGrown}
use Rattle.executor.specs.declared.recording.Recording.{Recording}
use Rattle.executor.specs.Evaluating.{IsReadyWith, Grown, TreeAnswers, DeltaAnswers, GrownAnswers}
use Rattle.executor.specs.Laws.{Laws}
use Rattle.executor.specs.Loading.{Loads}
use Rattle.executor.specs.Parts.{IsFormed, pieces_behind}
use Rattle.executor.specs.Recording.{recorded_of, recorded_of_delta}
use Rattle.executor.proofs.Fits as fits
use Rattle.executor.proofs.Fits.{TreeReady, DeltaReady}
use Rattle.executor.proofs.Nodes as nodes
use Rattle.executor.proofs.Records.{then_records}
use Rattle.executor.proofs.Steps.{on_ok}

module _ (laws : Laws) (p : PlainPlan) (c : Cuts) (hit : Hit) (way : PlainWay) (old : Made) (before : Loads) (found : Recording) where
  -- a refusal of a part is one of the result
  refused : (known : PlainWay) → way ≡ known → (after : Loads) (later : Recording) (e : MakeRefusal) (result : Result Made MakeRefusal) → result ≡ Err e → Grown p c hit known old before after (Err e)
      → GrownAnswers p c hit way old before after found later result
  refused known w after later e result is made =
      subst (λ way. GrownAnswers p c hit way old before after found later result) (sym w)
      (subst (GrownAnswers p c hit known old before after found later) (sym is) (record { fit = λ schemas rest typed fit ordered are. tt; made = made; places = tt }))

  module _ (formed : IsFormed (Node p c way)) (ready : IsReadyWith p old (pieces_behind way) before) where
    formed_as : (known : PlainWay) → way ≡ known → IsFormed (Node p c known)
    formed_as known w = subst (λ way. IsFormed (Node p c way)) w formed

    ready_as : (known : PlainWay) → way ≡ known → IsReadyWith p old (pieces_behind known) before
    ready_as known w = subst (λ way. IsReadyWith p old (pieces_behind way) before) w ready

    pub old_is_readable : IsReadable p old.kept
    old_is_readable = (ready.3.form_is, ready.3.bounded)

    -- ---- where the input grew

    module _ (d : PlainDelta) (w : way ≡ Tail hit d) where
      pub tail_needs : DeltaReady d before
      tail_needs = fits.tail_ready laws.typed p c hit old before d before (formed_as (Tail hit d) w) (ready_as (Tail hit d) w)

      module _ (mid : Loads) (later : Recording) where
        pub tail_refused : (e : MakeRefusal) (result : Result Made MakeRefusal) → result ≡ Err e → DeltaAnswers d before mid found later (Err e) → GrownAnswers p c hit way old before mid found later result
        tail_refused e result is part = refused (Tail hit d) w mid later e result is (nodes.tail_stops laws.makes laws.adds laws.valid p c hit old before d mid e part.added)

        module _ (added : Added) (part : DeltaAnswers d before mid found later (Ok added)) where
          pub tail_step_needs : (schemas : List Kinds) × IsSome (plan_kinds schemas p) × IsFit schemas p old.kept × OfGrown (FitRows schemas added.rows.items) p
          tail_step_needs = fits.tail_step laws.typed p c hit old before d mid (formed_as (Tail hit d) w) (ready_as (Tail hit d) w) added part.fit

          pub tail_answers : (result : Result Made MakeRefusal) → MakesGrown (old.taken_in + taken_in_of (added_of added)) p (made_of_grown p (made_of old) (added_of added)) result → GrownAnswers p c hit way old before mid found later result
          tail_answers result step =
              subst (λ way. GrownAnswers p c hit way old before mid found later result) (sym w)
              (record {
                fit = fits.tail_fit laws.typed p c hit old before d mid (formed_as (Tail hit d) w) (ready_as (Tail hit d) w) added part.fit _ result step;
                made = nodes.tail_done laws.makes laws.adds laws.valid p c hit old before d mid added result part.added step;
                places = on_ok _ result part.places;
              })

    -- ---- where the left input grew

    module _ (d : PlainDelta) (r : PlainRewriting) (w : way ≡ LeftGrew hit d r) where
      pub left_needs : DeltaReady d before
      left_needs = fits.left_ready laws.typed p c hit old before d r before before (formed_as (LeftGrew hit d r) w) (ready_as (LeftGrew hit d r) w)

      module _ (mid : Loads) (later : Recording) where
        pub left_refused : (e : MakeRefusal) (result : Result Made MakeRefusal) → result ≡ Err e → DeltaAnswers d before mid found later (Err e) → GrownAnswers p c hit way old before mid found later result
        left_refused e result is part = refused (LeftGrew hit d r) w mid later e result is (nodes.left_stops laws.makes laws.adds laws.valid p c hit old before d r mid mid e part.added)

        module _ (added : Added) (first : DeltaAnswers d before mid found later (Ok added)) where
          pub left_needs_then : TreeReady r mid
          left_needs_then = fits.left_ready_then laws.typed p c hit old before d r mid mid (formed_as (LeftGrew hit d r) w) (ready_as (LeftGrew hit d r) w) added first.fit

          module _ (after : Loads) (last : Recording) where
            pub left_refused_then : (e : MakeRefusal) (result : Result Made MakeRefusal) → result ≡ Err e → TreeAnswers r (recorded_of r) mid after later last (Err e) → GrownAnswers p c hit way old before after found last result
            left_refused_then e result is part = refused (LeftGrew hit d r) w after last e result is (nodes.left_stops_then laws.makes laws.adds laws.valid p c hit old before d r mid after added e first.added part.made)

            module _ (made : Made) (second : TreeAnswers r (recorded_of r) mid after later last (Ok made)) where
              pub left_step_needs : OfSides (λ left right. IsReadable right made.kept) p
              left_step_needs = fits.left_step laws.typed p c hit old before d r mid after (formed_as (LeftGrew hit d r) w) (ready_as (LeftGrew hit d r) w) added first.fit made second.fit

              pub left_answers : (result : Result Made MakeRefusal) → MakesGrown (old.taken_in + taken_in_of (added_of added)) p (made_of_left p (made_of old) (added_of added) (made_of made)) result
                  → GrownAnswers p c hit way old before after found last result
              left_answers result step =
                  subst (λ way. GrownAnswers p c hit way old before after found last result) (sym w)
                  (record {
                    fit = fits.left_fits laws.typed p c hit old before d r mid after (formed_as (LeftGrew hit d r) w) (ready_as (LeftGrew hit d r) w) added first.fit made second.fit _ result step;
                    made = nodes.left_done laws.makes laws.adds laws.valid p c hit old before d r mid after added made result first.added second.made step;
                    places = on_ok _ result (then_records (pieces_of_delta d) (pieces_of r) (recorded_of_delta d) (recorded_of r) before mid after found later last first.places second.places);
                  })

    -- ---- where the right input grew

    module _ (l : PlainRewriting) (d : PlainDelta) (w : way ≡ RightGrew hit l d) where
      pub right_needs : TreeReady l before
      right_needs = fits.right_ready laws.typed p c hit old before l d before before (formed_as (RightGrew hit l d) w) (ready_as (RightGrew hit l d) w)

      module _ (mid : Loads) (later : Recording) where
        pub right_refused : (e : MakeRefusal) (result : Result Made MakeRefusal) → result ≡ Err e → TreeAnswers l (recorded_of l) before mid found later (Err e) → GrownAnswers p c hit way old before mid found later result
        right_refused e result is part = refused (RightGrew hit l d) w mid later e result is (nodes.right_stops laws.makes laws.adds laws.valid p c hit old before l d mid mid e part.made)

        module _ (made : Made) (first : TreeAnswers l (recorded_of l) before mid found later (Ok made)) where
          pub right_needs_then : DeltaReady d mid
          right_needs_then = fits.right_ready_then laws.typed p c hit old before l d mid mid (formed_as (RightGrew hit l d) w) (ready_as (RightGrew hit l d) w) made first.fit

          module _ (after : Loads) (last : Recording) where
            pub right_refused_then : (e : MakeRefusal) (result : Result Made MakeRefusal) → result ≡ Err e → DeltaAnswers d mid after later last (Err e) → GrownAnswers p c hit way old before after found last result
            right_refused_then e result is part = refused (RightGrew hit l d) w after last e result is (nodes.right_stops_then laws.makes laws.adds laws.valid p c hit old before l d mid after made e first.made part.added)

            module _ (added : Added) (second : DeltaAnswers d mid after later last (Ok added)) where
              pub right_step_needs : OfSides (λ left right. IsReadable left made.kept) p
              right_step_needs = fits.right_step laws.typed p c hit old before l d mid after (formed_as (RightGrew hit l d) w) (ready_as (RightGrew hit l d) w) made first.fit added second.fit

              pub right_answers : (result : Result Made MakeRefusal) → Makes (limit ≤ old.taken_in + taken_in_of (added_of added)) p (made_of_right p (made_of old) (made_of made) (added_of added)) result
                  → GrownAnswers p c hit way old before after found last result
              right_answers result step =
                  subst (λ way. GrownAnswers p c hit way old before after found last result) (sym w)
                  (record {
                    fit = fits.right_fits laws.typed p c hit old before l d mid after (formed_as (RightGrew hit l d) w) (ready_as (RightGrew hit l d) w) made first.fit added second.fit _ result step;
                    made = nodes.right_done laws.makes laws.adds laws.valid p c hit old before l d mid after made added result first.made second.added step;
                    places = on_ok _ result (then_records (pieces_of l) (pieces_of_delta d) (recorded_of l) (recorded_of_delta d) before mid after found later last first.places second.places);
                  })

    -- ---- where both grew

    module _ (l : PlainRewriting) (rd ld : PlainDelta) (r : PlainRewriting) (w : way ≡ BothGrew hit l rd ld r) where
      abbrev Known : PlainWay
      Known = BothGrew hit l rd ld r

      pub both_needs : TreeReady l before
      both_needs = fits.both_ready laws.typed p c hit old before l rd ld r before before before before (formed_as Known w) (ready_as Known w)

      module _ (one : Loads) (f : Recording) where
        pub both_refused : (e : MakeRefusal) (result : Result Made MakeRefusal) → result ≡ Err e → TreeAnswers l (recorded_of l) before one found f (Err e) → GrownAnswers p c hit way old before one found f result
        both_refused e result is part = refused Known w one f e result is (nodes.both_stops laws.makes laws.adds laws.valid p c hit old before l rd ld r one one one one e part.made)

        module _ (old_left : Made) (first : TreeAnswers l (recorded_of l) before one found f (Ok old_left)) where
          pub both_needs_second : DeltaReady rd one
          both_needs_second = fits.both_ready_second laws.typed p c hit old before l rd ld r one one one one (formed_as Known w) (ready_as Known w) old_left first.fit

          module _ (two : Loads) (g : Recording) where
            pub both_refused_second : (e : MakeRefusal) (result : Result Made MakeRefusal) → result ≡ Err e → DeltaAnswers rd one two f g (Err e) → GrownAnswers p c hit way old before two found g result
            both_refused_second e result is part = refused Known w two g e result is (nodes.both_stops_second laws.makes laws.adds laws.valid p c hit old before l rd ld r one two two two old_left e first.made part.added)

            module _ (right_added : Added) (second : DeltaAnswers rd one two f g (Ok right_added)) where
              pub both_needs_third : DeltaReady ld two
              both_needs_third = fits.both_ready_third laws.typed p c hit old before l rd ld r one two two two (formed_as Known w) (ready_as Known w) old_left first.fit right_added second.fit

              module _ (three : Loads) (h : Recording) where
                pub both_refused_third : (e : MakeRefusal) (result : Result Made MakeRefusal) → result ≡ Err e → DeltaAnswers ld two three g h (Err e) → GrownAnswers p c hit way old before three found h result
                both_refused_third e result is part =
                    refused Known w three h e result is (nodes.both_stops_third laws.makes laws.adds laws.valid p c hit old before l rd ld r one two three three old_left right_added e first.made second.added part.added)

                module _ (left_added : Added) (third : DeltaAnswers ld two three g h (Ok left_added)) where
                  pub both_needs_last : TreeReady r three
                  both_needs_last =
                      fits.both_ready_last laws.typed p c hit old before l rd ld r one two three three (formed_as Known w) (ready_as Known w) old_left first.fit right_added second.fit left_added third.fit

                  module _ (after : Loads) (last : Recording) where
                    pub both_refused_last : (e : MakeRefusal) (result : Result Made MakeRefusal) → result ≡ Err e → TreeAnswers r (recorded_of r) three after h last (Err e) → GrownAnswers p c hit way old before after found last result
                    both_refused_last e result is part =
                        refused Known w after last e result is
                        (nodes.both_stops_last laws.makes laws.adds laws.valid p c hit old before l rd ld r one two three after old_left right_added left_added e first.made second.added third.added part.made)

                    module _ (right : Made) (fourth : TreeAnswers r (recorded_of r) three after h last (Ok right)) where
                      pub both_step_needs_left : OfSides (λ first second. IsReadable first old_left.kept) p
                      both_step_needs_left =
                          fits.both_step_left laws.typed p c hit old before l rd ld r one two three after (formed_as Known w) (ready_as Known w) old_left first.fit right_added second.fit left_added third.fit right fourth.fit

                      pub both_step_needs_right : OfSides (λ first second. IsReadable second right.kept) p
                      both_step_needs_right =
                          fits.both_step_right laws.typed p c hit old before l rd ld r one two three after (formed_as Known w) (ready_as Known w) old_left first.fit right_added second.fit left_added third.fit right fourth.fit

                      pub both_answers : (result : Result Made MakeRefusal)
                          → MakesGrown (old.taken_in + (taken_in_of (added_of left_added) + taken_in_of (added_of right_added))) p
                          (made_of_both p (made_of old) (made_of old_left) (added_of right_added) (added_of left_added) (made_of right)) result
                          → GrownAnswers p c hit way old before after found last result
                      both_answers result step =
                          let records_two = then_records (pieces_of l) (pieces_of_delta rd) (recorded_of l) (recorded_of_delta rd) before one two found f g first.places second.places in
                          let records_three = then_records (pieces_of l ++ pieces_of_delta rd) (pieces_of_delta ld) (recorded_of l ++ recorded_of_delta rd) (recorded_of_delta ld) before two three found g h records_two third.places in
                          let records = then_records (pieces_of l ++ pieces_of_delta rd ++ pieces_of_delta ld) (pieces_of r) (recorded_of l ++ recorded_of_delta rd ++ recorded_of_delta ld) (recorded_of r) before three after found h last records_three fourth.places in
                          subst (λ way. GrownAnswers p c hit way old before after found last result) (sym w)
                          (record {
                            fit = fits.both_fits laws.typed p c hit old before l rd ld r one two three after (formed_as Known w) (ready_as Known w) old_left first.fit right_added second.fit left_added third.fit right fourth.fit _ result step;
                            made = nodes.both_done laws.makes laws.adds laws.valid p c hit old before l rd ld r one two three after old_left right_added left_added right result first.made second.added third.added fourth.made step;
                            places = on_ok _ result records;
                          })
