-- Further streams change nothing for a typed plan: its normal form, and what is fit to be its result.
use Rattle.std.proofs.Common.{◌≡◌, refl, sym, ap, ◌∙◌, subst, ℕ, List, [], ◌∷◌, ◌++◌, Option, IsSome, IfSome, unwrap_or, slice_get, Result, Ok, Err, IsOk}
use Rattle.row_blob.specs.declared.kept.Kept.{Kept}
use Rattle.plan_core.specs.Columns.{Rows}
use Rattle.plan_core.specs.PlainPlan.{PlainPlan, Scan, leaves}
use Rattle.plan_core.specs.PlanTyping.{Kinds, plan_typing}
use Rattle.plan_core.specs.declared.refusal.PlanRefusal.{PlanRefusal}
use Rattle.plan_core.specs.TypedRows.{HaveKinds, AreOfStreams}
use Rattle.plan_canon.specs.Normal.{IsNormalFormOf}
use Rattle.plan_canon.specs.PlanRules.{plan_step}
use Rattle.plan_canon.specs.Steps.{Reaches, done, more}
use Rattle.plan_canon.proofs.Later.{kinds_still, step_still}
use Rattle.plan_canon.proofs.StepTyping.{all_steps_typing}
use Rattle.plan_laws.specs.PlanShape.{kinds_given}
use Rattle.growth_laws.specs.Chains.{IsOneStream}
use Rattle.growth_laws.specs.Growth as laws
use Rattle.executor.specs.Pieces.{HasTyping}
use Rattle.result_ops.specs.Fitting.{IsFit, IsOfKinds}
use Rattle.result_ops.specs.declared.made.Made.{Made}
use Rattle.result_ops.specs.declared.stop.Stop.{Stop}
use Rattle.result_ops.specs.declared.stop.Stop.TheVariants as stop
use Rattle.rows_core.specs.declared.overflow.Overflow.{Overflow}
use Rattle.executor.specs.Loading.{IsFitLoad}
use Rattle.gathering.specs.Gathered.{Gathered, Gathers, ComesTo}
use Rattle.executor.proofs.StreamTypes.{scan_typed}
use Rattle.catalog_core.proofs.Typings.{typed_still}
use Rattle.folder.proofs.GrownStreams.{kinds-of-typed}

module _ (schemas others : List Kinds) where
  pub typing-still : (p : PlainPlan) → HasTyping schemas p → HasTyping (schemas ++ others) p
  typing-still p is = subst IsOk (sym (typed_still schemas others p is)) is

  pub step-still : (p : PlainPlan) → HasTyping schemas p → plan_step (schemas ++ others) p ≡ plan_step schemas p
  step-still p is = let k = kinds-of-typed schemas p is in step_still schemas others p k.0 k.1

  given-still : (p : PlainPlan) → HasTyping schemas p → kinds_given (schemas ++ others) p ≡ kinds_given schemas p
  given-still p is = let k = kinds-of-typed schemas p is in ap (λ (o : Option Kinds). unwrap_or o []) (kinds_still schemas others p k.0 k.1 ∙ sym k.1)

  -- ---- normal forms

  reaches-still : (k : Kinds) {z p : PlainPlan} → Reaches (plan_step schemas) z p → plan_typing schemas p ≡ Ok k → Reaches (plan_step (schemas ++ others)) z p
  reaches-still k (done e) typed = done e
  reaches-still k (more {x} {y} e r) typed =
      more (step-still x (subst IsOk (sym typed) refl) ∙ e) (reaches-still k r (all_steps_typing schemas k {z = y} {p = x} (more e (done refl)) typed))

  with-typing : (r : Result Kinds PlanRefusal) → IsOk r → (k : Kinds) × (r ≡ Ok k)
  with-typing (Ok k) is = (k, refl)
  with-typing (Err e) is = absurd cc

  pub form-still : (p form : PlainPlan) → HasTyping schemas p → HasTyping schemas form → IsNormalFormOf schemas p form → IsNormalFormOf (schemas ++ others) p form
  form-still p form typed form_typed is =
      let k = with-typing (plan_typing schemas p) typed in
      (reaches-still k.0 is.0 k.1, step-still form form_typed ∙ is.1)

  -- ---- results

  result-still : (p : PlainPlan) (form : Kept) → HasTyping schemas p → IsFit schemas p form → IsFit (schemas ++ others) p form
  result-still p form typed is = record {
    form_is = is.form_is;
    kinds_are = subst (λ (kinds : Kinds). IsOfKinds kinds form) (sym (given-still p typed)) is.kinds_are;
    bounded = is.bounded;
  }

  pub load-still : (p : PlainPlan) (loaded : Result Made Stop) → HasTyping schemas p → IsFitLoad schemas p loaded → IsFitLoad (schemas ++ others) p loaded
  load-still p (Ok made) typed is = (result-still p made.kept typed is.0, is.1)
  load-still p (Err e) typed is = tt

  -- ---- what is gathered of one stream

  comes-still : (p : PlainPlan) (given : Result laws.Made Overflow) (came : Result laws.Made Stop) → HasTyping schemas p → ComesTo schemas p given came → ComesTo (schemas ++ others) p given came
  comes-still p given (Ok made) typed is = (is.0, is.1, result-still p made.kept typed is.2)
  comes-still p given (Err stop.Machine) typed is = is
  comes-still p given (Err stop.Overflow) typed is = is

  rows-still : (p : PlainPlan) (stream : ℕ) (fed : Rows) → IsOneStream p → HasTyping schemas p → leaves p ≡ stream ∷ [] → AreOfStreams schemas (leaves p) (fed ∷ []) → AreOfStreams (schemas ++ others) (leaves p) (fed ∷ [])
  rows-still p stream fed one typed leaf =
      let k = kinds-of-typed schemas (Scan stream) (scan_typed schemas stream p one typed leaf) in
      let same : slice_get (schemas ++ others) stream ≡ slice_get schemas stream = kinds_still schemas others (Scan stream) k.0 k.1 ∙ sym k.1 in
      subst (λ (l : List ℕ). AreOfStreams schemas l (fed ∷ []) → AreOfStreams (schemas ++ others) l (fed ∷ [])) (sym leaf)
      (λ are. (subst (λ (o : Option Kinds). IfSome o (λ kinds. HaveKinds kinds fed)) (sym same) are.0, are.1))

  pub gathers-still : (g : Gathered) (stream : ℕ) (fed : Rows) → IsOneStream g.plan → HasTyping schemas g.plan → leaves g.plan ≡ stream ∷ [] → Gathers schemas fed g → Gathers (schemas ++ others) fed g
  gathers-still g stream fed one typed leaf is =
      let k = kinds-of-typed schemas g.plan typed in
      record {
        typed = subst IsSome (sym (kinds_still schemas others g.plan k.0 k.1)) refl;
        of_stream = rows-still g.plan stream fed one typed leaf is.of_stream;
        comes = comes-still g.plan (laws.whole_made g.plan (fed ∷ [])) g.came typed is.comes;
      }
