-- A refusal that is passed on, and a delta that is unchanged.
use Rattle.std.proofs.Common.{◌≡◌, sym, ap, subst, ◌∙◌, ◌<◌, lit<, [], Result, Ok, Err, IsErrAnd}
use Rattle.std.proofs.lemmas.List.Elements.{All-nil}
use Rattle.std.proofs.lemmas.Result.{err_from_is_err_and}
use Rattle.plan_core.specs.PlainPlan.{PlainPlan}
use Rattle.estimator.specs.Cuts.{Cuts}
use Rattle.rewrite_core.specs.PlainRewriting.{Unchanged}
use Rattle.growth_laws.specs.Growth as laws
use Rattle.growth_laws.specs.Making.{nothing_added}
use Rattle.result_ops.specs.declared.made.Added.{Added}
use Rattle.result_ops.specs.declared.refusal.MakeRefusal.{MakeRefusal}
use Rattle.result_ops.specs.Fitting.{FitRows}
use Rattle.result_ops.specs.Steps.{added_of}
use Rattle.executor.specs.Evaluating.{AddsFit, Passed}
use Rattle.executor.specs.Loading.{Loads}

-- what the exit of a `?` returns
pub stopped : {X : Type 0} (result : Result X MakeRefusal) (e : MakeRefusal) → IsErrAnd result (λ told. told ≡ e) → result ≡ Err e
stopped result e exit = let is = err_from_is_err_and result exit in is.1 ∙ ap Err is.2

-- ---- a delta that is unchanged

module _ (plan : PlainPlan) (before : Loads) (added : Added) (is : added_of added ≡ nothing_added) where
  pub unchanged_fits : AddsFit plan [] before before (Ok added)
  unchanged_fits = λ schemas rest typed are. (subst (λ (m : laws.Added). FitRows schemas m.rows plan) (sym is) (All-nil _), are)

  pub unchanged_adds : (old new : Cuts) → Passed plan old new Unchanged before before (Ok added)
  unchanged_adds old new = λ extents results rest held. ((ap Ok (sym is), subst (λ (m : laws.Added). m.taken_in < 4294967295) (sym is) (lit< tt)), held)
