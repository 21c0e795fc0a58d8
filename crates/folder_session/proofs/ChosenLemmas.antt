-- The choice for a plan that is worked off is one for that plan at its cut.
use Rattle.std.proofs.Common.{◌≡◌, ◌∙◌, ◌≤◌, [], length, IsOk, refl, sym, ap, subst, arith}
use Rattle.plan_core.specs.Literals.{HasValidLiterals}
use Rattle.plan_core.specs.Nesting.{node_count, expr_count, nesting}
use Rattle.plan_core.specs.PlainPlan.{PlainPlan, plan_of, leaves}
use Rattle.plan_core.specs.PlanTyping.{plan_typing}
use Rattle.plan_core.specs.TypedPlan.{TypedPlan}
use Rattle.plan_spelling.specs.Spelling.{HasPlanSpelling}
use Rattle.plan_canon.specs.Normal.{IsNormal}
use Rattle.estimator.specs.Cuts.{Cuts}
use Rattle.rewrite_core.specs.PlainRewriting.{PlainRewriting, rewriting_of}
use Rattle.catalog_core.specs.Programs.{AreCuts, kinds_of_streams}
use Rattle.catalog_core.specs.Results.{IsOver}
use Rattle.catalog_core.specs.Table.{Table}
use Rattle.plan_choice.specs.Leaving.{leaving_out}
use Rattle.plan_choice.specs.Taken.{IsTaken, IsChoice}
use Rattle.plan_choice.specs.declared.choosing.Choice.{Choice}
use Rattle.planning.specs.Running.{Target, IsPlanned, IsTypedAt}
use Rattle.work_plan.specs.Fitting.{IsFit}
use Rattle.work_run.specs.Chosen.{IsChosen}
use Rattle.work_turns.specs.Turns.{IsChosenOf}
use Rattle.folder_session.specs.Wanted.{target_at}

abbrev AllTaken : (P : (t : Table) (plan normal : PlainPlan) (cuts : Cuts) (r : PlainRewriting) → Type 0) → Type 0
AllTaken P = (t : Table) (plan normal : PlainPlan) (cuts : Cuts) (r : PlainRewriting) → IsTaken t plan normal cuts r → P t plan normal cuts r

module _ (over : AllTaken (λ t plan normal cuts r. IsOk (plan_typing (kinds_of_streams t.streams) plan) → AreCuts t.streams (leaves plan) cuts → IsOver t.streams normal cuts))
    (same_leaves : AllTaken (λ t plan normal cuts r. leaves normal ≡ leaves plan)) (is_normal : AllTaken (λ t plan normal cuts r. IsNormal (kinds_of_streams t.streams) normal))
    (deep : AllTaken (λ t plan normal cuts r. node_count plan ≤ 40 → expr_count plan ≤ 512 → nesting normal ≤ 1024))
    (t : Table) (typed : TypedPlan) (cuts : Cuts) where
  module _ (target : Target) (choice : Choice) (plan_is : IsTypedAt t target typed cuts)
      (spelled : HasPlanSpelling (plan_of choice.rewriting.plan)) (literals : HasValidLiterals (plan_of choice.rewriting.plan)) where
    has_typing : IsOk (plan_typing (kinds_of_streams t.streams) target.plan)
    has_typing = subst (λ (p : PlainPlan). IsOk (plan_typing (kinds_of_streams t.streams) p)) plan_is.plan (subst IsOk (sym plan_is.over) refl)

    fit_for : (is : IsChoice t target.plan cuts choice) → IsFit t.streams is.normal cuts
    fit_for is =
        let r = rewriting_of choice.rewriting in
        let root : plan_of choice.rewriting.plan ≡ is.normal = is.taken.least.is.0 in
        let nine = plan_is.few_leaves in
        record {
          over = over t target.plan is.normal cuts r is.taken has_typing plan_is.are_cuts;
          normal = is_normal t target.plan is.normal cuts r is.taken;
          spelled = subst HasPlanSpelling root spelled;
          literals = subst HasValidLiterals root literals;
          deep = deep t target.plan is.normal cuts r is.taken plan_is.nodes plan_is.exprs;
          few = omega (arith, ap length (same_leaves t target.plan is.normal cuts r is.taken), nine);
        }

    pub chosen_for : IsChoice t target.plan cuts choice → IsChosen t target.plan cuts choice
    chosen_for is = record { choice_is = is; typed = has_typing; are_cuts = plan_is.are_cuts; fit = fit_for is }

    -- so it is as the first of turns
    pub of_form : leaving_out [] t ≡ t → (form : PlainPlan) → plan_of choice.rewriting.plan ≡ form → IsChoice t target.plan cuts choice → IsChosenOf t [] target.plan form cuts choice
    of_form none form same is =
        let moved : IsChosen (leaving_out [] t) target.plan cuts choice = subst (λ (x : Table). IsChosen x target.plan cuts choice) (sym none) (chosen_for is) in
        record { chosen = moved; form_is = sym moved.choice_is.taken.least.is.0 ∙ same }

-- what is planned is the plan that has this typing, at this cut
pub own_target : (t : Table) (target : Target) (typed : TypedPlan) (cuts : Cuts) → IsTypedAt t target typed cuts → target ≡ target_at typed cuts
own_target t target typed cuts is = λ i. record { plan = sym is.plan i; cuts = sym is.cuts_are i }

pub own_planned : (t : Table) (target : Target) (typed : TypedPlan) (cuts : Cuts) → IsPlanned t target typed cuts → IsPlanned t (target_at typed cuts) typed cuts
own_planned t target typed cuts is = subst (λ (x : Target). IsPlanned t x typed cuts) (own_target t target typed cuts is.typed_at) is

-- the same table and cut
pub typed_there : (t u : Table) → t ≡ u → (target : Target) (typed : TypedPlan) (cuts given : Cuts) → given ≡ cuts → IsTypedAt t target typed cuts → IsTypedAt u target typed given
typed_there t u same target typed cuts given is typed_at =
    subst (λ (x : Table). IsTypedAt x target typed given) same (subst (λ (c : Cuts). IsTypedAt t target typed c) (sym is) typed_at)
