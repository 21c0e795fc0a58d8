-- What is made of a piece that was taken.
use Rattle.std.proofs.Common.{◌≡◌, sym, ap, subst, ◌∙◌, ◌<◌, true, List, [], ◌∷◌, ◌++◌, reverse, IsSome, IfOk, OnOk, Result, Ok, Err}
use Rattle.std.proofs.lemmas.List.Elements.{All-nil}
use Rattle.row_blob.specs.declared.kept.Kept.{Kept}
use Rattle.row_blob.specs.declared.kept.Kept.TheVariants as kept
use Rattle.plan_core.specs.PlainPlan.{PlainPlan}
use Rattle.plan_core.specs.PlanTyping.{Kinds, plan_kinds}
use Rattle.plan_core.specs.TypedRows.{HaveKinds}
use Rattle.estimator.specs.Cuts.{Cuts, added_cuts}
use Rattle.rewrite_core.specs.declared.rewriting.Hit.{Hit}
use Rattle.rewrite_core.specs.declared.rewriting.Parts as parts
use Rattle.rewrite_core.specs.IsRewriting.{IsRewriting}
use Rattle.rewrite_core.specs.PlainRewriting.{Node, PlainWay, Read, Change, PlainDeltaWay, grown_way}
use Rattle.growth_laws.specs.KeptResults.{KeptResults, kept_among}
use Rattle.growth_laws.specs.Lists.{Extents}
use Rattle.growth_laws.specs.Making.{kept_rows, made_before}
use Rattle.growth_laws.specs.Pieces.{Piece, Entry, Gathered, is_gathered, is_chain_delta, pieces_of, pieces_in, pieces_of_delta, made_of_piece, as_added}
use Rattle.growth_laws.specs.Trees.{made_by, made_in, added_by}
use Rattle.growth_laws.proofs.PieceResults.{gathered, chain_added}
use Rattle.result_ops.specs.declared.made.Made.{Made}
use Rattle.result_ops.specs.declared.made.Added.{Added}
use Rattle.result_ops.specs.declared.refusal.MakeRefusal.{MakeRefusal}
use Rattle.result_ops.specs.Bounds.{IsBounded}
use Rattle.result_ops.specs.Fitting.{IsFit, IsOfKinds, FitRows, StandsInOrder}
use Rattle.result_ops.specs.Steps.{made_of, added_of}
use Rattle.executor.specs.Evaluating.{IsReady, IsReadyWith, MakesFit, MakesFitWith, AddsFit, Tree, Computed, Grown, DeltaTree}
use Rattle.executor.specs.Laws.{GivesValid, MakesResults, AddsResults}
use Rattle.executor.specs.Loading.{Loads, HoldAll, AreFit, Took, IsAbove, piece_plan}
use Rattle.executor.specs.Parts.{IsFormed, IsFormedDelta, pieces_behind}
use Rattle.executor.specs.Passing.{Passes}
use Rattle.executor.proofs.Above as law
use Rattle.executor.proofs.Loads.{gathered_pieces, gathered_delta_pieces, grown_pieces}
use Rattle.executor.proofs.Steps.{took_makes, took_stops, took_stops_added, from_ok}

-- what taking a piece needs and says
abbrev pub HasPiece : Loads → Type 0
HasPiece before = (schemas : List Kinds) × (piece : Piece) × (rest : List Piece) × AreFit schemas (piece ∷ rest) (reverse before)

abbrev pub TakesFit : Loads → Loads → Result Made MakeRefusal → Type 0
TakesFit before after result =
    (schemas : List Kinds) (piece : Piece) (rest : List Piece) → AreFit schemas (piece ∷ rest) (reverse before)
    → IfOk result (λ made. IsFit schemas (piece_plan piece) made.kept × StandsInOrder made.kept × AreFit schemas rest (reverse after))

abbrev pub TakesHeld : Loads → Loads → Result Made MakeRefusal → Type 0
TakesHeld before after result =
    (extents : Extents) (results : KeptResults) (piece : Piece) (rest : List Piece) → HoldAll extents results (piece ∷ rest) (reverse before)
    → Took (piece_plan piece) (made_of_piece extents results piece) result × OnOk result (HoldAll extents results rest (reverse after))

if_ok : {X E : Type 0} (P Q : X → Type 0) (result : Result X E) → ((x : X) → P x → Q x) → IfOk result P → IfOk result Q
if_ok P Q (Ok x) f is = f x is
if_ok P Q (Err e) f is = tt

bounded : (before after : Loads) (result : Result Made MakeRefusal) (ready : HasPiece before) → TakesFit before after result → IfOk result (λ made. IsBounded (piece_plan ready.1) made.kept)
bounded before after result ready takes = if_ok _ (λ made. IsBounded (piece_plan ready.1) made.kept) result (λ made fit. fit.0.bounded) (takes ready.0 ready.1 ready.2 ready.3)

-- ---- of one piece

module _ (piece : Piece) (before after : Loads) where
  pub piece_ready : IsReady (piece_plan piece) (piece ∷ []) before → HasPiece before
  piece_ready ready = (ready.0, piece, ready.1, ready.3)

  pub piece_fits : (result : Result Made MakeRefusal) → TakesFit before after result → MakesFit (piece_plan piece) (piece ∷ []) before after result
  piece_fits result takes = λ schemas rest typed are.
      if_ok _ (λ made. IsFit schemas (piece_plan piece) made.kept × AreFit schemas rest (reverse after)) result (λ made fit. (fit.0, fit.2)) (takes schemas piece rest are)

module _ (p : PlainPlan) (c : Cuts) (way : PlainWay) (chain : is_gathered (Node p c way) ≡ true) (before : Loads) where
  pub gathered_ready : IsReady p (pieces_of (Node p c way)) before → HasPiece before
  gathered_ready ready = (ready.0, Gathered p c, ready.1, subst (λ ps. AreFit ready.0 (ps ++ ready.1) (reverse before)) (gathered_pieces p c way chain) ready.3)

module _ (makes : MakesResults) (adds : AddsResults) (valid : GivesValid) (p : PlainPlan) where
  module _ (c : Cuts) (before after : Loads) (result : Result Made MakeRefusal) (takes : TakesFit before after result) (held : TakesHeld before after result) where
    pub read_makes : (hit : Hit) → IsReady p (Entry p hit.id ∷ []) before → Computed p c (Read hit) before after result
    unfolding piece_ready
    read_makes hit ready = λ extents results rest all.
        let part = held extents results (Entry p hit.id) rest all in
        (took_makes _ p (Ok (made_before (results hit.id))) result (law.above_passes makes adds valid extents results p c (Read hit)) part.0 (bounded before after result (piece_ready (Entry p hit.id) before after ready) takes), part.1)

    module _ (way : PlainWay) (chain : is_gathered (Node p c way) ≡ true) where
      pub gathered_fits : MakesFit p (pieces_of (Node p c way)) before after result
      gathered_fits = subst (λ ps. MakesFit p ps before after result) (sym (gathered_pieces p c way chain)) (piece_fits (Gathered p c) before after result takes)

      pub gathered_makes : IsFormed (Node p c way) → IsReady p (pieces_of (Node p c way)) before → Tree (Node p c way) before after result
      unfolding gathered_ready
      gathered_makes formed ready = λ extents results rest all.
          let part = held extents results (Gathered p c) rest (subst (λ ps. HoldAll extents results (ps ++ rest) (reverse before)) (gathered_pieces p c way chain) all) in (
            took_makes _ p (made_by extents results (Node p c way)) result (law.above_passes makes adds valid extents results p c way)
                (subst (λ given. Took p given result) (sym (gathered extents results p c (Node p c way) formed chain)) part.0)
                (bounded before after result (gathered_ready p c way chain before ready) takes),
            part.1,
          )

  -- ---- the earlier result of a grown one

  module _ (c : Cuts) (hit : Hit) where
    old_passes : (extents : Extents) (results : KeptResults) (of : parts.Parts) → IsAbove p (Ok (made_before (results hit.id))) → Passes extents results (Node p c (grown_way hit of))
    old_passes extents results (parts.Tail' a b d e) above = law.old_lifts makes adds valid extents results p c hit (grown_way hit (parts.Tail' a b d e)) (λ (is : IsRewriting (kept_among extents results) p c (Node p c (grown_way hit (parts.Tail' a b d e)))). is.2.0) above
    old_passes extents results (parts.LeftGrew' a b d e f g h) above = law.old_lifts makes adds valid extents results p c hit (grown_way hit (parts.LeftGrew' a b d e f g h)) (λ (is : IsRewriting (kept_among extents results) p c (Node p c (grown_way hit (parts.LeftGrew' a b d e f g h)))). is.2.0) above
    old_passes extents results (parts.RightGrew' a b d e f g h) above = law.old_lifts makes adds valid extents results p c hit (grown_way hit (parts.RightGrew' a b d e f g h)) (λ (is : IsRewriting (kept_among extents results) p c (Node p c (grown_way hit (parts.RightGrew' a b d e f g h)))). is.2.0) above
    old_passes extents results (parts.BothGrew' a b d e f g h i j k l m n o) above = law.old_lifts makes adds valid extents results p c hit (grown_way hit (parts.BothGrew' a b d e f g h i j k l m n o)) (λ (is : IsRewriting (kept_among extents results) p c (Node p c (grown_way hit (parts.BothGrew' a b d e f g h i j k l m n o)))). is.2.0) above

    module _ (of : parts.Parts) (before mid : Loads) where
      abbrev Way : PlainWay
      Way = grown_way hit of

      ready_split : IsReady p (pieces_in p Way) before → (schemas : List Kinds) × (rest : List Piece) × IsSome (plan_kinds schemas p) × AreFit schemas (Entry p hit.id ∷ (pieces_behind Way ++ rest)) (reverse before)
      ready_split ready = (ready.0, ready.1, ready.2, subst (λ ps. AreFit ready.0 (ps ++ ready.1) (reverse before)) (grown_pieces hit p of) ready.3)

      pub old_ready : IsReady p (pieces_in p Way) before → HasPiece before
      old_ready ready = let split = ready_split ready in (split.0, Entry p hit.id, pieces_behind Way ++ split.1, split.3)

      pub old_stops : (e : MakeRefusal) → TakesHeld before mid (Err e) → Computed p c Way before mid (Err e)
      old_stops e held = λ extents results rest all.
          let part = held extents results (Entry p hit.id) (pieces_behind Way ++ rest) (subst (λ ps. HoldAll extents results (ps ++ rest) (reverse before)) (grown_pieces hit p of) all) in
          (took_stops _ p p (Ok (made_before (results hit.id))) (made_in extents results p c Way) e (old_passes extents results of) (λ f. absurd (cc)) part.0, tt)

      module _ (old : Made) (takes : TakesFit before mid (Ok old)) where
        pub then_ready : IsReady p (pieces_in p Way) before → IsReadyWith p old (pieces_behind Way) mid
        then_ready ready =
            let split = ready_split ready in
            let fit = takes split.0 (Entry p hit.id) (pieces_behind Way ++ split.1) split.3 in (split.0, split.1, split.2, fit.0, fit.1, fit.2)

        pub then_fits : (after : Loads) (result : Result Made MakeRefusal) → MakesFitWith p old (pieces_behind Way) mid after result → MakesFit p (pieces_in p Way) before after result
        then_fits after result rest_fit = λ schemas rest typed are.
            let fit = takes schemas (Entry p hit.id) (pieces_behind Way ++ rest) (subst (λ ps. AreFit schemas (ps ++ rest) (reverse before)) (grown_pieces hit p of) are) in
            rest_fit schemas rest typed fit.0 fit.1 fit.2

        pub then_makes : (after : Loads) (result : Result Made MakeRefusal) → TakesHeld before mid (Ok old) → Grown p c hit Way old mid after result → Computed p c Way before after result
        then_makes after result held grown = λ extents results rest all.
            let part = held extents results (Entry p hit.id) (pieces_behind Way ++ rest) (subst (λ ps. HoldAll extents results (ps ++ rest) (reverse before)) (grown_pieces hit p of) all) in
            grown extents results rest (from_ok (made_before (results hit.id)) (made_of old) part.0.0) part.1

  -- ---- a gathered delta

  module _ (old new : Cuts) (way : PlainDeltaWay) (chain : is_chain_delta (Change p old new way) ≡ true) (before after : Loads) where
    abbrev Cut : Cuts
    Cut = added_cuts old new

    pub chain_ready : IsReady p (pieces_of_delta (Change p old new way)) before → HasPiece before
    chain_ready ready = (ready.0, Gathered p Cut, ready.1, subst (λ ps. AreFit ready.0 (ps ++ ready.1) (reverse before)) (gathered_delta_pieces p old new way chain) ready.3)

    rows_of_kinds : (kinds : Kinds) (form : Kept) → IsOfKinds kinds form → HaveKinds kinds (kept_rows form)
    rows_of_kinds kinds (kept.Rows rows) is = is
    rows_of_kinds kinds (kept.Groups groups) is = All-nil _
    rows_of_kinds kinds (kept.Tagged left rows) is = All-nil _

    pub chain_fits : (made : Made) (added : Added) → added.rows.items ≡ kept_rows made.kept → TakesFit before after (Ok made) → AddsFit p (pieces_of_delta (Change p old new way)) before after (Ok added)
    chain_fits made added rows takes = λ schemas rest typed are.
        let fit = takes schemas (Gathered p Cut) rest (subst (λ ps. AreFit schemas (ps ++ rest) (reverse before)) (gathered_delta_pieces p old new way chain) are) in
        (subst (λ rows. FitRows schemas rows p) (sym rows) (rows_of_kinds _ made.kept fit.0.kinds_are), fit.2)

    chain_given : (extents : Extents) (results : KeptResults) → IsFormedDelta (Change p old new way) → added_by extents results (Change p old new way) ≡ as_added (made_of_piece extents results (Gathered p Cut))
    chain_given extents results formed = chain_added extents results (Change p old new way) p old new formed chain

    pub chain_stops : (e : MakeRefusal) → IsFormedDelta (Change p old new way) → TakesHeld before after (Err e) → DeltaTree (Change p old new way) before after (Err e)
    chain_stops e formed held = λ extents results rest all.
        let part = held extents results (Gathered p Cut) rest (subst (λ ps. HoldAll extents results (ps ++ rest) (reverse before)) (gathered_delta_pieces p old new way chain) all) in
        let given = made_of_piece extents results (Gathered p Cut) in (
          took_stops_added _ p given (added_by extents results (Change p old new way)) e (law.chain_passes makes adds valid extents results p old new way given chain (chain_given extents results formed))
              (λ f. chain_given extents results formed ∙ ap as_added f) part.0,
          tt,
        )

    pub chain_makes : (made : Made) (added : Added) → added.rows.items ≡ kept_rows made.kept → added.taken_in ≡ made.taken_in → IsFormedDelta (Change p old new way) → TakesHeld before after (Ok made)
        → DeltaTree (Change p old new way) before after (Ok added)
    chain_makes made added rows taken formed held = λ extents results rest all.
        let part = held extents results (Gathered p Cut) rest (subst (λ ps. HoldAll extents results (ps ++ rest) (reverse before)) (gathered_delta_pieces p old new way chain) all) in
        let same : as_added (Ok (made_of made)) ≡ Ok (added_of added) = λ i. Ok (record { rows = sym rows i; taken_in = sym taken i }) in (
          (chain_given extents results formed ∙ ap as_added part.0.0 ∙ same, subst (λ n. n < 4294967295) (sym taken) part.0.1),
          part.1,
        )
