-- What each way of a delta needs of its parts, and what it answers.
use Rattle.std.proofs.Common.{◌≡◌, sym, subst, ◌≤◌, true, false, List, ◌++◌, reverse, IsSome, Result, Ok, Err}
use Rattle.plan_core.specs.PlainPlan.{PlainPlan}
use Rattle.plan_core.specs.PlanTyping.{Kinds, plan_kinds}
use Rattle.estimator.specs.Cuts.{Cuts}
use Rattle.rewrite_core.specs.IsRewriting.{OfSides}
use Rattle.rewrite_core.specs.PlainRewriting.{PlainRewriting, PlainDelta, Change, PlainDeltaWay, Unchanged, OfChild, OfDistinct, OfJoin}
use Rattle.growth_laws.specs.Making.{kept_rows, nothing_added, taken_in_of, added_of_child, added_of_distinct, added_of_join}
use Rattle.growth_laws.specs.Pieces.{is_chain_delta, pieces_of, pieces_of_delta, pieces_in_delta}
use Rattle.result_ops.specs.declared.made.Made.{Made}
use Rattle.result_ops.specs.declared.made.Added.{Added}
use Rattle.result_ops.specs.declared.refusal.MakeRefusal.{MakeRefusal}
use Rattle.result_ops.specs.Bounds.{limit}
use Rattle.result_ops.specs.Fitting.{FitRows, OfPassed, IsReadable}
use Rattle.result_ops.specs.Steps.{made_of, added_of, Adds}
use Rattle.executor.specs.declared.recording.Recording.{Recording}
use Rattle.executor.specs.Evaluating.{IsReady, AddsFit, Passed, TreeAnswers, DeltaAnswers, DeltaWayAnswers}
use Rattle.executor.specs.Laws.{Laws}
use Rattle.executor.specs.Loading.{Loads, HoldAll}
use Rattle.executor.specs.Parts.{IsFormedDelta}
use Rattle.executor.specs.Recording.{recorded_of, recorded_of_delta}
use Rattle.executor.proofs.Arms.{unchanged_fits, unchanged_adds}
use Rattle.executor.proofs.Fits as fits
use Rattle.executor.proofs.Fits.{TreeReady, DeltaReady}
use Rattle.executor.proofs.Loads.{other_delta_pieces}
use Rattle.executor.proofs.Nodes as nodes
use Rattle.executor.proofs.Records.{none_recorded, then_records, chain_records, other_delta_records}
use Rattle.executor.proofs.Steps.{on_ok}
use Rattle.executor.proofs.TakenPieces as taken
use Rattle.executor.proofs.TakenPieces.{TakesFit, TakesHeld}

-- ---- a delta that is gathered, or is not

module _ (laws : Laws) (p : PlainPlan) (old new : Cuts) (way : PlainDeltaWay) (before : Loads) (found : Recording) where
  module _ (chain : is_chain_delta (Change p old new way) ≡ true) (formed : IsFormedDelta (Change p old new way)) (after : Loads) where
    pub chain_refused : (e : MakeRefusal) (result : Result Added MakeRefusal) → result ≡ Err e → TakesHeld before after (Err e) → DeltaAnswers (Change p old new way) before after found found result
    chain_refused e result is held =
        subst (DeltaAnswers (Change p old new way) before after found found) (sym is)
        (record {
          fit = λ schemas rest typed are. tt;
          added = taken.chain_stops laws.makes laws.adds laws.valid p old new way chain before after e formed held;
          places = tt;
        })

    pub chain_answers : (made : Made) (added : Added) → added.rows.items ≡ kept_rows made.kept → added.taken_in ≡ made.taken_in → TakesFit before after (Ok made) → TakesHeld before after (Ok made)
        → DeltaAnswers (Change p old new way) before after found found (Ok added)
    chain_answers made added rows taken_in fit held = record {
      fit = taken.chain_fits laws.makes laws.adds laws.valid p old new way chain before after made added rows fit;
      added = taken.chain_makes laws.makes laws.adds laws.valid p old new way chain before after made added rows taken_in formed held;
      places = chain_records p old new way before after found made chain held;
    }

module _ (p : PlainPlan) (old new : Cuts) (way : PlainDeltaWay) (chain : is_chain_delta (Change p old new way) ≡ false) (before : Loads) where
  module _ (o n : Cuts) (is_old : o ≡ old) (is_new : n ≡ new) where
    pub other_needs : IsFormedDelta (Change p old new way) → IsReady p (pieces_of_delta (Change p old new way)) before
        → IsFormedDelta (Change p o n way) × (is_chain_delta (Change p o n way) ≡ false) × IsReady p (pieces_in_delta way) before
    other_needs formed ready = (
      subst (λ o. IsFormedDelta (Change p o n way)) (sym is_old) (subst (λ n. IsFormedDelta (Change p old n way)) (sym is_new) formed),
      subst (λ o. is_chain_delta (Change p o n way) ≡ false) (sym is_old) (subst (λ n. is_chain_delta (Change p old n way) ≡ false) (sym is_new) chain),
      subst (λ ps. IsReady p ps before) (other_delta_pieces p old new way chain) ready,
    )

    pub other_answers : (after : Loads) (found later : Recording) (result : Result Added MakeRefusal) → DeltaWayAnswers p o n way before after found later result → DeltaAnswers (Change p old new way) before after found later result
    other_answers after found later result given =
        let is : DeltaWayAnswers p old new way before after found later result =
        subst (λ o. DeltaWayAnswers p o new way before after found later result) is_old (subst (λ n. DeltaWayAnswers p o n way before after found later result) is_new given)
        in record {
          fit = subst (λ ps. AddsFit p ps before after result) (sym (other_delta_pieces p old new way chain)) is.fit;
          added = λ extents results rest held. is.added extents results rest (subst (λ ps. HoldAll extents results (ps ++ rest) (reverse before)) (other_delta_pieces p old new way chain) held);
          places = other_delta_records p old new way before after found later result chain is.places;
        }

-- ---- what it adds of its parts

module _ (laws : Laws) (p : PlainPlan) (old new : Cuts) (way : PlainDeltaWay) (before : Loads) (found : Recording) where
  -- a refusal of a part is one of the way
  refused : (known : PlainDeltaWay) → way ≡ known → (after : Loads) (later : Recording) (e : MakeRefusal) (result : Result Added MakeRefusal) → result ≡ Err e → Passed p old new known before after (Err e)
      → DeltaWayAnswers p old new way before after found later result
  refused known w after later e result is passed =
      subst (λ way. DeltaWayAnswers p old new way before after found later result) (sym w)
      (subst (DeltaWayAnswers p old new known before after found later) (sym is) (record { fit = λ schemas rest typed are. tt; added = passed; places = tt }))

  pub unchanged_answers : way ≡ Unchanged → (added : Added) → added_of added ≡ nothing_added → DeltaWayAnswers p old new way before before found found (Ok added)
  unchanged_answers w added is =
      subst (λ way. DeltaWayAnswers p old new way before before found found (Ok added)) (sym w)
      (record { fit = unchanged_fits p before added is; added = unchanged_adds p before added is old new; places = none_recorded before found })

  module _ (formed : IsFormedDelta (Change p old new way)) (ready : IsReady p (pieces_in_delta way) before) where
    formed_as : (known : PlainDeltaWay) → way ≡ known → IsFormedDelta (Change p old new known)
    formed_as known w = subst (λ way. IsFormedDelta (Change p old new way)) w formed

    ready_as : (known : PlainDeltaWay) → way ≡ known → IsReady p (pieces_in_delta known) before
    ready_as known w = subst (λ way. IsReady p (pieces_in_delta way) before) w ready

    module _ (d : PlainDelta) (w : way ≡ OfChild d) where
      pub child_needs : DeltaReady d before
      child_needs = fits.child_ready laws.typed p old new before before d (formed_as (OfChild d) w) (ready_as (OfChild d) w)

      module _ (mid : Loads) (later : Recording) where
        pub child_refused : (e : MakeRefusal) (result : Result Added MakeRefusal) → result ≡ Err e → DeltaAnswers d before mid found later (Err e) → DeltaWayAnswers p old new way before mid found later result
        child_refused e result is part = refused (OfChild d) w mid later e result is (nodes.child_stops laws.makes laws.adds laws.valid p old new d before mid e part.added)

        module _ (added : Added) (part : DeltaAnswers d before mid found later (Ok added)) where
          pub child_step_needs : (schemas : List Kinds) × IsSome (plan_kinds schemas p) × OfPassed (FitRows schemas added.rows.items) p
          child_step_needs = fits.child_step laws.typed p old new before mid d (formed_as (OfChild d) w) (ready_as (OfChild d) w) added part.fit

          pub child_answers : (result : Result Added MakeRefusal) → Adds (limit ≤ taken_in_of (added_of added)) (added_of_child p (added_of added)) result → DeltaWayAnswers p old new way before mid found later result
          child_answers result step =
              subst (λ way. DeltaWayAnswers p old new way before mid found later result) (sym w)
              (record {
                fit = fits.child_fit laws.typed p old new before mid d (formed_as (OfChild d) w) (ready_as (OfChild d) w) added part.fit (limit ≤ taken_in_of (added_of added)) result step;
                added = nodes.child_done laws.makes laws.adds laws.valid p old new d before mid added result part.added step;
                places = on_ok _ result part.places;
              })

    module _ (r : PlainRewriting) (d : PlainDelta) (w : way ≡ OfDistinct r d) where
      pub distinct_needs : TreeReady r before
      distinct_needs = fits.distinct_ready laws.typed p old new before before r d before (formed_as (OfDistinct r d) w) (ready_as (OfDistinct r d) w)

      module _ (mid : Loads) (later : Recording) where
        pub distinct_refused : (e : MakeRefusal) (result : Result Added MakeRefusal) → result ≡ Err e → TreeAnswers r (recorded_of r) before mid found later (Err e) → DeltaWayAnswers p old new way before mid found later result
        distinct_refused e result is part = refused (OfDistinct r d) w mid later e result is (nodes.distinct_stops laws.makes laws.adds laws.valid p old new before mid mid r d e part.made)

        module _ (made : Made) (first : TreeAnswers r (recorded_of r) before mid found later (Ok made)) where
          pub distinct_needs_then : DeltaReady d mid
          distinct_needs_then = fits.distinct_ready_then laws.typed p old new before mid r d mid (formed_as (OfDistinct r d) w) (ready_as (OfDistinct r d) w) made first.fit

          pub distinct_step_needs : IsReadable p made.kept
          distinct_step_needs = fits.distinct_step laws.typed p old new before mid r d mid (formed_as (OfDistinct r d) w) (ready_as (OfDistinct r d) w) made first.fit

          module _ (after : Loads) (last : Recording) where
            pub distinct_refused_then : (e : MakeRefusal) (result : Result Added MakeRefusal) → result ≡ Err e → DeltaAnswers d mid after later last (Err e) → DeltaWayAnswers p old new way before after found last result
            distinct_refused_then e result is part =
                refused (OfDistinct r d) w after last e result is (nodes.distinct_stops_then laws.makes laws.adds laws.valid p old new before mid after r d made e first.made part.added)

            pub distinct_answers : (added : Added) → DeltaAnswers d mid after later last (Ok added) → (result : Result Added MakeRefusal) → Adds (limit ≤ taken_in_of (added_of added)) (added_of_distinct (made_of made) (added_of added)) result
                → DeltaWayAnswers p old new way before after found last result
            distinct_answers added second result step =
                subst (λ way. DeltaWayAnswers p old new way before after found last result) (sym w)
                (record {
                  fit = fits.distinct_fit laws.typed p old new before mid r d after (formed_as (OfDistinct r d) w) (ready_as (OfDistinct r d) w) made first.fit added second.fit (limit ≤ taken_in_of (added_of added)) result step;
                  added = nodes.distinct_done laws.makes laws.adds laws.valid p old new before mid after r d made added result first.made second.added step;
                  places = on_ok _ result (then_records (pieces_of r) (pieces_of_delta d) (recorded_of r) (recorded_of_delta d) before mid after found later last first.places second.places);
                })

    module _ (d : PlainDelta) (r : PlainRewriting) (w : way ≡ OfJoin d r) where
      pub join_needs : DeltaReady d before
      join_needs = fits.join_ready laws.typed p old new before before d r before (formed_as (OfJoin d r) w) (ready_as (OfJoin d r) w)

      module _ (mid : Loads) (later : Recording) where
        pub join_refused : (e : MakeRefusal) (result : Result Added MakeRefusal) → result ≡ Err e → DeltaAnswers d before mid found later (Err e) → DeltaWayAnswers p old new way before mid found later result
        join_refused e result is part = refused (OfJoin d r) w mid later e result is (nodes.join_stops laws.makes laws.adds laws.valid p old new before mid mid d r e part.added)

        module _ (added : Added) (first : DeltaAnswers d before mid found later (Ok added)) where
          pub join_needs_then : TreeReady r mid
          join_needs_then = fits.join_ready_then laws.typed p old new before mid d r mid (formed_as (OfJoin d r) w) (ready_as (OfJoin d r) w) added first.fit

          module _ (after : Loads) (last : Recording) where
            pub join_refused_then : (e : MakeRefusal) (result : Result Added MakeRefusal) → result ≡ Err e → TreeAnswers r (recorded_of r) mid after later last (Err e) → DeltaWayAnswers p old new way before after found last result
            join_refused_then e result is part =
                refused (OfJoin d r) w after last e result is (nodes.join_stops_then laws.makes laws.adds laws.valid p old new before mid after d r added e first.added part.made)

            module _ (made : Made) (second : TreeAnswers r (recorded_of r) mid after later last (Ok made)) where
              pub join_step_needs : OfSides (λ left right. IsReadable right made.kept) p
              join_step_needs = fits.join_step laws.typed p old new before mid d r after (formed_as (OfJoin d r) w) (ready_as (OfJoin d r) w) added first.fit made second.fit

              pub join_answers : (result : Result Added MakeRefusal) → Adds (limit ≤ taken_in_of (added_of added)) (added_of_join p (added_of added) (made_of made)) result → DeltaWayAnswers p old new way before after found last result
              join_answers result step =
                  subst (λ way. DeltaWayAnswers p old new way before after found last result) (sym w)
                  (record {
                    fit = fits.join_fit laws.typed p old new before mid d r after (formed_as (OfJoin d r) w) (ready_as (OfJoin d r) w) added first.fit made second.fit (limit ≤ taken_in_of (added_of added)) result step;
                    added = nodes.join_done laws.makes laws.adds laws.valid p old new before mid after d r added made result first.added second.made step;
                    places = on_ok _ result (then_records (pieces_of_delta d) (pieces_of r) (recorded_of_delta d) (recorded_of r) before mid after found later last first.places second.places);
                  })
