-- What each way of a rewriting needs of its parts, and what it answers.
use Rattle.std.proofs.Common.{◌≡◌, sym, subst, ◌≤◌, true, false, ◌++◌, reverse, Result, Ok, Err}
use Rattle.plan_core.specs.PlainPlan.{PlainPlan}
use Rattle.estimator.specs.Cuts.{Cuts}
use Rattle.rewrite_core.specs.declared.rewriting.Hit.{Hit}
use Rattle.rewrite_core.specs.declared.rewriting.Parts.{Parts}
use Rattle.rewrite_core.specs.PlainRewriting.{PlainRewriting, Node, PlainWay, One, Two, Read, grown_way}
use Rattle.growth_laws.specs.Making.{made_of_one, made_of_two}
use Rattle.growth_laws.specs.Pieces.{Entry, is_gathered, pieces_of, pieces_in}
use Rattle.result_ops.specs.declared.made.Made.{Made}
use Rattle.result_ops.specs.declared.refusal.MakeRefusal.{MakeRefusal}
use Rattle.result_ops.specs.Bounds.{limit}
use Rattle.result_ops.specs.Fitting.{HasFitInput, HasFitInputs}
use Rattle.result_ops.specs.Steps.{made_of, Makes, taken_of_one, taken_of_two}
use Rattle.executor.specs.declared.recording.Recording.{Recording}
use Rattle.executor.specs.Evaluating.{IsReady, IsReadyWith, MakesFit, Computed, TreeAnswers, WayAnswers, GrownAnswers}
use Rattle.executor.specs.Laws.{Laws}
use Rattle.executor.specs.Loading.{Loads, HoldAll}
use Rattle.executor.specs.Parts.{IsFormed, pieces_behind}
use Rattle.executor.specs.Recording.{recorded_of, recorded_below, recorded_in, RecordsOwn}
use Rattle.executor.proofs.Fits as fits
use Rattle.executor.proofs.Fits.{TreeReady}
use Rattle.executor.proofs.Loads.{other_pieces}
use Rattle.executor.proofs.Nodes as nodes
use Rattle.executor.proofs.Records.{then_records, piece_records, gathered_records, other_records, then_grown, own_fit, own_made, own_records}
use Rattle.executor.proofs.Steps.{on_ok}
use Rattle.executor.proofs.TakenPieces as taken
use Rattle.executor.proofs.TakenPieces.{HasPiece, TakesFit, TakesHeld}

-- ---- a tree with its own result, and without

module _ (p : PlainPlan) (c : Cuts) (way : PlainWay) (before mid : Loads) (found later : Recording) where
  pub tree_refused : (e : MakeRefusal) (result : Result Made MakeRefusal) → result ≡ Err e → TreeAnswers (Node p c way) (recorded_below (Node p c way)) before mid found later (Err e)
      → TreeAnswers (Node p c way) (recorded_of (Node p c way)) before mid found later result
  tree_refused e result is part = subst (TreeAnswers (Node p c way) (recorded_of (Node p c way)) before mid found later) (sym is) (record { fit = part.fit; made = part.made; places = tt })

  pub tree_answers : (made : Made) (last : Recording) (result : Result Made MakeRefusal) → TreeAnswers (Node p c way) (recorded_below (Node p c way)) before mid found later (Ok made) → RecordsOwn (Node p c way) made later last result
      → TreeAnswers (Node p c way) (recorded_of (Node p c way)) before mid found last result
  tree_answers made last result part own = record {
    fit = own_fit (Node p c way) before mid made later last p (pieces_of (Node p c way)) result own part.fit;
    made = own_made (Node p c way) before mid made later last result own part.made;
    places = own_records p c way before mid made found later last result own part.made part.places;
  }

module _ (laws : Laws) (p : PlainPlan) (c : Cuts) (way : PlainWay) (before after : Loads) where
  pub gathered_answers : is_gathered (Node p c way) ≡ true → IsFormed (Node p c way) → IsReady p (pieces_of (Node p c way)) before → (found : Recording) (result : Result Made MakeRefusal) → TakesFit before after result
      → TakesHeld before after result → TreeAnswers (Node p c way) (recorded_below (Node p c way)) before after found found result
  gathered_answers chain formed ready found result fit held = record {
    fit = taken.gathered_fits laws.makes laws.adds laws.valid p c before after result fit held way chain;
    made = taken.gathered_makes laws.makes laws.adds laws.valid p c before after result fit held way chain formed ready;
    places = gathered_records p c way before after found result chain held;
  }

module _ (p : PlainPlan) (c : Cuts) (way : PlainWay) (chain : is_gathered (Node p c way) ≡ false) (before : Loads) (items : Cuts) (is_cut : items ≡ c) where
  pub other_needs : IsFormed (Node p c way) → IsReady p (pieces_of (Node p c way)) before → IsFormed (Node p items way) × (is_gathered (Node p items way) ≡ false) × IsReady p (pieces_in p way) before
  other_needs formed ready = (
    subst (λ cuts. IsFormed (Node p cuts way)) (sym is_cut) formed,
    subst (λ cuts. is_gathered (Node p cuts way) ≡ false) (sym is_cut) chain,
    subst (λ ps. IsReady p ps before) (other_pieces p c way chain) ready,
  )

  pub other_answers : (after : Loads) (found later : Recording) (result : Result Made MakeRefusal) → WayAnswers p items way before after found later result → TreeAnswers (Node p c way) (recorded_below (Node p c way)) before after found later result
  other_answers after found later result given =
      let is : WayAnswers p c way before after found later result = subst (λ cuts. WayAnswers p cuts way before after found later result) is_cut given
      in record {
        fit = subst (λ ps. MakesFit p ps before after result) (sym (other_pieces p c way chain)) is.fit;
        made = λ extents results rest held. is.made extents results rest (subst (λ ps. HoldAll extents results (ps ++ rest) (reverse before)) (other_pieces p c way chain) held);
        places = other_records p c way before after found later result chain is.places;
      }

-- ---- what it makes of its parts

module _ (laws : Laws) (p : PlainPlan) (c : Cuts) (way : PlainWay) (before : Loads) (found : Recording) where
  -- a refusal of a part is one of the way
  refused : (known : PlainWay) → way ≡ known → (after : Loads) (later : Recording) (e : MakeRefusal) (result : Result Made MakeRefusal) → result ≡ Err e → Computed p c known before after (Err e)
      → WayAnswers p c way before after found later result
  refused known w after later e result is made =
      subst (λ way. WayAnswers p c way before after found later result) (sym w)
      (subst (WayAnswers p c known before after found later) (sym is) (record { fit = λ schemas rest typed are. tt; made = made; places = tt }))

  module _ (ready : IsReady p (pieces_in p way) before) where
    ready_as : (known : PlainWay) → way ≡ known → IsReady p (pieces_in p known) before
    ready_as known w = subst (λ way. IsReady p (pieces_in p way) before) w ready

    -- ---- of a kept result that is read

    module _ (hit : Hit) (w : way ≡ Read hit) where
      pub read_needs : HasPiece before
      read_needs = taken.piece_ready (Entry p hit.id) before before (ready_as (Read hit) w)

      pub read_answers : (after : Loads) (result : Result Made MakeRefusal) → TakesFit before after result → TakesHeld before after result → WayAnswers p c way before after found found result
      read_answers after result fit held =
          subst (λ way. WayAnswers p c way before after found found result) (sym w)
          (record {
            fit = taken.piece_fits (Entry p hit.id) before after result fit;
            made = taken.read_makes laws.makes laws.adds laws.valid p c before after result fit held hit (ready_as (Read hit) w);
            places = piece_records (Entry p hit.id) before after found result held;
          })

    -- ---- of an earlier result and of what came since

    module _ (hit : Hit) (of : Parts) (w : way ≡ grown_way hit of) where
      pub old_needs : HasPiece before
      old_needs = taken.old_ready laws.makes laws.adds laws.valid p c hit of before before (ready_as (grown_way hit of) w)

      module _ (mid : Loads) where
        pub old_refused : (e : MakeRefusal) (result : Result Made MakeRefusal) → result ≡ Err e → TakesHeld before mid (Err e) → WayAnswers p c way before mid found found result
        old_refused e result is held = refused (grown_way hit of) w mid found e result is (taken.old_stops laws.makes laws.adds laws.valid p c hit of before mid e held)

        module _ (old : Made) (fit : TakesFit before mid (Ok old)) where
          pub grown_needs : IsFormed (Node p c way) → IsFormed (Node p c (grown_way hit of)) × IsReadyWith p old (pieces_behind (grown_way hit of)) mid
          grown_needs formed = (subst (λ way. IsFormed (Node p c way)) w formed, taken.then_ready laws.makes laws.adds laws.valid p c hit of before mid old fit (ready_as (grown_way hit of) w))

          pub grown_answers : TakesHeld before mid (Ok old) → (after : Loads) (later : Recording) (result : Result Made MakeRefusal) → GrownAnswers p c hit (grown_way hit of) old mid after found later result
              → WayAnswers p c way before after found later result
          grown_answers held after later result part =
              subst (λ way. WayAnswers p c way before after found later result) (sym w)
              (record {
                fit = taken.then_fits laws.makes laws.adds laws.valid p c hit of before mid old fit after result part.fit;
                made = taken.then_makes laws.makes laws.adds laws.valid p c hit of before mid old fit after result held part.made;
                places = then_grown p hit of (recorded_in (grown_way hit of)) before mid after found later old result held part.places;
              })

    module _ (formed : IsFormed (Node p c way)) where
      formed_as : (known : PlainWay) → way ≡ known → IsFormed (Node p c known)
      formed_as known w = subst (λ way. IsFormed (Node p c way)) w formed

      -- ---- of one input

      module _ (r : PlainRewriting) (w : way ≡ One r) where
        pub one_needs : TreeReady r before
        one_needs = fits.one_ready laws.typed p c r before before (formed_as (One r) w) (ready_as (One r) w)

        module _ (mid : Loads) (later : Recording) where
          pub one_refused : (e : MakeRefusal) (result : Result Made MakeRefusal) → result ≡ Err e → TreeAnswers r (recorded_of r) before mid found later (Err e) → WayAnswers p c way before mid found later result
          one_refused e result is part = refused (One r) w mid later e result is (nodes.one_stops laws.makes laws.adds laws.valid p c r before mid e part.made)

          module _ (made : Made) (part : TreeAnswers r (recorded_of r) before mid found later (Ok made)) where
            pub one_step_needs : HasFitInput p made.kept
            one_step_needs = fits.one_step laws.typed p c r before mid (formed_as (One r) w) (ready_as (One r) w) made part.fit

            pub one_answers : (result : Result Made MakeRefusal) → Makes (limit ≤ taken_of_one (made_of made)) p (made_of_one p (made_of made)) result → WayAnswers p c way before mid found later result
            one_answers result step =
                subst (λ way. WayAnswers p c way before mid found later result) (sym w)
                (record {
                  fit = fits.one_fit laws.typed p c r before mid (formed_as (One r) w) (ready_as (One r) w) made part.fit (limit ≤ taken_of_one (made_of made)) result step;
                  made = nodes.one_done laws.makes laws.adds laws.valid p c r before mid made result part.made step;
                  places = on_ok _ result part.places;
                })

      -- ---- of two inputs

      module _ (l r : PlainRewriting) (w : way ≡ Two l r) where
        pub two_needs : TreeReady l before
        two_needs = fits.two_ready laws.typed p c l r before before before (formed_as (Two l r) w) (ready_as (Two l r) w)

        module _ (mid : Loads) (later : Recording) where
          pub two_refused : (e : MakeRefusal) (result : Result Made MakeRefusal) → result ≡ Err e → TreeAnswers l (recorded_of l) before mid found later (Err e) → WayAnswers p c way before mid found later result
          two_refused e result is part = refused (Two l r) w mid later e result is (nodes.two_stops laws.makes laws.adds laws.valid p c l r before mid mid e part.made)

          module _ (left : Made) (first : TreeAnswers l (recorded_of l) before mid found later (Ok left)) where
            pub two_needs_then : TreeReady r mid
            two_needs_then = fits.two_ready_then laws.typed p c l r before mid mid (formed_as (Two l r) w) (ready_as (Two l r) w) left first.fit

            module _ (after : Loads) (last : Recording) where
              pub two_refused_then : (e : MakeRefusal) (result : Result Made MakeRefusal) → result ≡ Err e → TreeAnswers r (recorded_of r) mid after later last (Err e) → WayAnswers p c way before after found last result
              two_refused_then e result is part = refused (Two l r) w after last e result is (nodes.two_stops_then laws.makes laws.adds laws.valid p c l r before mid after left e first.made part.made)

              module _ (right : Made) (second : TreeAnswers r (recorded_of r) mid after later last (Ok right)) where
                pub two_step_needs : HasFitInputs p left.kept right.kept
                two_step_needs = fits.two_step laws.typed p c l r before mid after (formed_as (Two l r) w) (ready_as (Two l r) w) left first.fit right second.fit

                pub two_answers : (result : Result Made MakeRefusal) → Makes (limit ≤ taken_of_two (made_of left) (made_of right)) p (made_of_two p (made_of left) (made_of right)) result → WayAnswers p c way before after found last result
                two_answers result step =
                    subst (λ way. WayAnswers p c way before after found last result) (sym w)
                    (record {
                      fit = fits.two_fits laws.typed p c l r before mid after (formed_as (Two l r) w) (ready_as (Two l r) w) left first.fit right second.fit (limit ≤ taken_of_two (made_of left) (made_of right)) result step;
                      made = nodes.two_done laws.makes laws.adds laws.valid p c l r before mid after left right result first.made second.made step;
                      places = on_ok _ result (then_records (pieces_of l) (pieces_of r) (recorded_of l) (recorded_of r) before mid after found later last first.places second.places);
                    })
