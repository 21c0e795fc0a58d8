-- What evaluating a part of a rewriting needs, and what it answers. The loaded pieces stand in a stack, the next one last.
use Rattle.std.specs.Prelude.{◌≡◌, List, ◌++◌, reverse, IsSome, IfOk, OnOk, Result}
use Rattle.plan_core.specs.PlainPlan.{PlainPlan}
use Rattle.plan_core.specs.PlanTyping.{Kinds, plan_kinds}
use Rattle.rows_core.specs.declared.overflow.Overflow.{Overflow}
use Rattle.estimator.specs.Cuts.{Cuts}
use Rattle.rewrite_core.specs.declared.rewriting.Hit.{Hit}
use Rattle.rewrite_core.specs.PlainRewriting.{PlainRewriting, Node, PlainWay, PlainDelta, Change, PlainDeltaWay}
use Rattle.growth_laws.specs.Growth as laws
use Rattle.growth_laws.specs.KeptResults.{KeptResults}
use Rattle.growth_laws.specs.Lists.{Extents}
use Rattle.growth_laws.specs.Making.{made_before}
use Rattle.growth_laws.specs.Parts.{plan_at}
use Rattle.growth_laws.specs.Pieces.{Piece, pieces_of, pieces_in, pieces_of_delta, pieces_in_delta}
use Rattle.growth_laws.specs.Trees.{made_by, made_in, added_by, added_in}
use Rattle.result_ops.specs.declared.made.Made.{Made}
use Rattle.result_ops.specs.declared.made.Added.{Added}
use Rattle.result_ops.specs.declared.refusal.MakeRefusal.{MakeRefusal}
use Rattle.result_ops.specs.Fitting.{IsFit, FitRows, StandsInOrder}
use Rattle.result_ops.specs.Steps.{made_of, Makes, Adds}
use Rattle.executor.specs.declared.recording.Recording.{Recording}
use Rattle.executor.specs.Loading.{Loads, HoldAll, AreFit}
use Rattle.executor.specs.Parts.{delta_plan, pieces_behind}
use Rattle.executor.specs.Passing.{Passes, DeltaPasses}
use Rattle.executor.specs.Recording.{Records, recorded_in, recorded_of_delta, recorded_in_delta}

-- the next loaded pieces are fit, and the plan has a typing over their streams
abbrev pub IsReady : PlainPlan → List Piece → Loads → Type 0
IsReady plan pieces stack =
    (schemas : List Kinds) × (rest : List Piece) × IsSome (plan_kinds schemas plan) × AreFit schemas (pieces ++ rest) (reverse stack)

-- and the earlier result that was taken is fit
abbrev pub IsReadyWith : PlainPlan → Made → List Piece → Loads → Type 0
IsReadyWith plan old pieces stack =
    (schemas : List Kinds) × (rest : List Piece) × IsSome (plan_kinds schemas plan) × IsFit schemas plan old.kept × StandsInOrder old.kept
    × AreFit schemas (pieces ++ rest) (reverse stack)

-- what is made is fit, and so are the loaded pieces that are left
abbrev pub MakesFit : PlainPlan → List Piece → Loads → Loads → Result Made MakeRefusal → Type 0
MakesFit plan pieces before after result =
    (schemas : List Kinds) (rest : List Piece) → IsSome (plan_kinds schemas plan) → AreFit schemas (pieces ++ rest) (reverse before)
    → IfOk result (λ made. IsFit schemas plan made.kept × AreFit schemas rest (reverse after))

abbrev pub MakesFitWith : PlainPlan → Made → List Piece → Loads → Loads → Result Made MakeRefusal → Type 0
MakesFitWith plan old pieces before after result =
    (schemas : List Kinds) (rest : List Piece) → IsSome (plan_kinds schemas plan) → IsFit schemas plan old.kept → StandsInOrder old.kept
    → AreFit schemas (pieces ++ rest) (reverse before) → IfOk result (λ made. IsFit schemas plan made.kept × AreFit schemas rest (reverse after))

-- the same of added rows
abbrev pub AddsFit : PlainPlan → List Piece → Loads → Loads → Result Added MakeRefusal → Type 0
AddsFit plan pieces before after result =
    (schemas : List Kinds) (rest : List Piece) → IsSome (plan_kinds schemas plan) → AreFit schemas (pieces ++ rest) (reverse before)
    → IfOk result (λ added. FitRows schemas added.rows.items plan × AreFit schemas rest (reverse after))

-- Whatever the extents and the kept results hold of which the loaded pieces are: what the definitions give is made, and the
-- loaded pieces that are left are those of the further pieces.
abbrev pub Evaluates : (Extents → KeptResults → Type 0) → PlainPlan → (Extents → KeptResults → Result laws.Made Overflow) → List Piece → Loads → Loads → Result Made MakeRefusal → Type 0
Evaluates passes plan given pieces before after result =
    (extents : Extents) (results : KeptResults) (rest : List Piece) → HoldAll extents results (pieces ++ rest) (reverse before)
    → Makes (passes extents results) plan (given extents results) result × OnOk result (HoldAll extents results rest (reverse after))

abbrev pub EvaluatesDelta : (Extents → KeptResults → Type 0) → (Extents → KeptResults → Result laws.Added Overflow) → List Piece → Loads → Loads → Result Added MakeRefusal → Type 0
EvaluatesDelta passes given pieces before after result =
    (extents : Extents) (results : KeptResults) (rest : List Piece) → HoldAll extents results (pieces ++ rest) (reverse before)
    → Adds (passes extents results) (given extents results) result × OnOk result (HoldAll extents results rest (reverse after))

-- a tree, what is made in its way, and what is made of an earlier result and of what came since
abbrev pub Tree : PlainRewriting → Loads → Loads → Result Made MakeRefusal → Type 0
Tree r = Evaluates (λ extents results. Passes extents results r) (plan_at r) (λ extents results. made_by extents results r) (pieces_of r)

abbrev pub Computed : PlainPlan → Cuts → PlainWay → Loads → Loads → Result Made MakeRefusal → Type 0
Computed plan cuts way = Evaluates (λ extents results. Passes extents results (Node plan cuts way)) plan (λ extents results. made_in extents results plan cuts way) (pieces_in plan way)

abbrev pub Grown : PlainPlan → Cuts → Hit → PlainWay → Made → Loads → Loads → Result Made MakeRefusal → Type 0
Grown plan cuts hit way old before after result =
    (extents : Extents) (results : KeptResults) (rest : List Piece) → made_before (results hit.id) ≡ made_of old → HoldAll extents results (pieces_behind way ++ rest) (reverse before)
    → Makes (Passes extents results (Node plan cuts way)) plan (made_in extents results plan cuts way) result × OnOk result (HoldAll extents results rest (reverse after))

-- a delta, and what is added in its way
abbrev pub DeltaTree : PlainDelta → Loads → Loads → Result Added MakeRefusal → Type 0
DeltaTree d = EvaluatesDelta (λ extents results. DeltaPasses extents results d) (λ extents results. added_by extents results d) (pieces_of_delta d)

abbrev pub Passed : PlainPlan → Cuts → Cuts → PlainDeltaWay → Loads → Loads → Result Added MakeRefusal → Type 0
Passed plan old new way = EvaluatesDelta (λ extents results. DeltaPasses extents results (Change plan old new way)) (λ extents results. added_in extents results plan old new way) (pieces_in_delta way)

-- ---- all that is answered: it is fit, it is what the definitions give, and the results of these trees are recorded

pub record TreeAnswers (r : PlainRewriting) (trees : List PlainRewriting) (before after : Loads) (found found_then : Recording) (result : Result Made MakeRefusal) : Type 0 where
  pub fit : MakesFit (plan_at r) (pieces_of r) before after result
  pub made : Tree r before after result
  pub places : OnOk result (Records (pieces_of r) trees before after found found_then)

pub record WayAnswers (plan : PlainPlan) (cuts : Cuts) (way : PlainWay) (before after : Loads) (found found_then : Recording) (result : Result Made MakeRefusal) : Type 0 where
  pub fit : MakesFit plan (pieces_in plan way) before after result
  pub made : Computed plan cuts way before after result
  pub places : OnOk result (Records (pieces_in plan way) (recorded_in way) before after found found_then)

pub record GrownAnswers (plan : PlainPlan) (cuts : Cuts) (hit : Hit) (way : PlainWay) (old : Made) (before after : Loads) (found found_then : Recording) (result : Result Made MakeRefusal) : Type 0 where
  pub fit : MakesFitWith plan old (pieces_behind way) before after result
  pub made : Grown plan cuts hit way old before after result
  pub places : OnOk result (Records (pieces_behind way) (recorded_in way) before after found found_then)

pub record DeltaAnswers (d : PlainDelta) (before after : Loads) (found found_then : Recording) (result : Result Added MakeRefusal) : Type 0 where
  pub fit : AddsFit (delta_plan d) (pieces_of_delta d) before after result
  pub added : DeltaTree d before after result
  pub places : OnOk result (Records (pieces_of_delta d) (recorded_of_delta d) before after found found_then)

pub record DeltaWayAnswers (plan : PlainPlan) (old new : Cuts) (way : PlainDeltaWay) (before after : Loads) (found found_then : Recording) (result : Result Added MakeRefusal) : Type 0 where
  pub fit : AddsFit plan (pieces_in_delta way) before after result
  pub added : Passed plan old new way before after result
  pub places : OnOk result (Records (pieces_in_delta way) (recorded_in_delta way) before after found found_then)
