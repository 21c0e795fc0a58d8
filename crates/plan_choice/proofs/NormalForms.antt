-- What a plan's normal form has of the plan.
use Rattle.std.proofs.Common.{◌≡◌, refl, sym, subst, ℕ, List, Result, Ok, Err, IsOk}
use Rattle.std.proofs.lemmas.Bool.{false≢true}
use Rattle.plan_core.specs.PlainPlan.{PlainPlan, leaves}
use Rattle.plan_core.specs.PlanTyping.{Kinds, plan_typing}
use Rattle.plan_canon.specs.Normal.{IsNormalFormOf}
use Rattle.plan_canon.specs.NormalPlan.{normal_plan}
use Rattle.plan_canon.specs.PlanRules.{plan_step}
use Rattle.plan_canon.proofs.NormalPlans.{plan_ends}
use Rattle.plan_canon.proofs.Reached.{one_end}
use Rattle.plan_canon.proofs.StepTyping.{all_steps_leaves, all_steps_typing}
use Rattle.estimator.specs.Cuts.{Cuts}
use Rattle.catalog_types.specs.declared.snapshot.StreamState.{StreamState}
use Rattle.catalog_core.specs.Programs.{kinds_of_streams, AreCuts}

-- a plan has one normal form, the one that the steps lead to
pub normal_is : (schemas : List Kinds) (plan form : PlainPlan) → IsNormalFormOf schemas plan form → normal_plan schemas plan ≡ form
normal_is schemas plan form is = let ends = plan_ends schemas plan in one_end (plan_step schemas) ends.0 is.0 ends.1 is.1

pub form_leaves : (schemas : List Kinds) (plan form : PlainPlan) → IsNormalFormOf schemas plan form → leaves form ≡ leaves plan
form_leaves schemas plan form is = all_steps_leaves schemas plan is.0 refl

-- what holds wherever there is a value
pub where_ok : {A E : Type 0} (B : Type 0) (r : Result A E) → ((x : A) → r ≡ Ok x → B) → IsOk r → B
where_ok B (Ok x) f ok = f x refl
where_ok B (Err e) f ok = absurd (false≢true ok)

pub form_typed : (schemas : List Kinds) (plan form : PlainPlan) → IsNormalFormOf schemas plan form → IsOk (plan_typing schemas plan) → IsOk (plan_typing schemas form)
form_typed schemas plan form is typed =
    where_ok (IsOk (plan_typing schemas form)) (plan_typing schemas plan) (λ kinds same. subst IsOk (sym (all_steps_typing schemas kinds is.0 same)) refl) typed

-- ---- cuts of a table's streams

-- those of a plan are those of its normal form
pub form_cuts : (streams : List StreamState) (plan form : PlainPlan) (cuts : Cuts) → IsNormalFormOf (kinds_of_streams streams) plan form → AreCuts streams (leaves plan) cuts → AreCuts streams (leaves form) cuts
form_cuts streams plan form cuts is are = subst (λ (ls : List ℕ). AreCuts streams ls cuts) (sym (form_leaves (kinds_of_streams streams) plan form is)) are
