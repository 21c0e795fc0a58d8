use Rattle.std.proofs.Common.{◌≡◌, ◌≤◌, refl, sym, ap, ◌∙◌, subst, List, Result, Ok, Err}
use Rattle.std.specs.Result.{IfOk, IsOk}
use Rattle.plan_core.specs.PlainPlan.{PlainPlan}
use Rattle.plan_core.specs.Nesting.{expr_count, node_count, nesting}
use Rattle.plan_core.specs.PlanTyping.{Kinds, plan_typing}
use Rattle.plan_canon.specs.Normal.{IsNormalFormOf, MeanTheSame}
use Rattle.plan_canon.specs.NormalPlan.{normal_plan}
use Rattle.plan_canon.proofs.normal.canon.Goals as goal

-- what holds of the plan that was typed anew
carried : {X E : Type 0} (r : Result X E) (plan : X → PlainPlan) (P : PlainPlan → Type 0) (p q : PlainPlan) → IfOk r (λ x. plan x ≡ p) → p ≡ q → P q → IfOk r (λ x. P (plan x))
carried (Ok x) plan P p q is same h = subst P (sym (is ∙ same)) h
carried (Err e) plan P p q is same h = tt

-- and its kinds
same_kinds : {X E : Type 0} (r : Result X E) (plan : X → PlainPlan) (kinds : X → Kinds) (schemas : List Kinds) (p : PlainPlan) (k : Kinds)
    → IfOk r (λ x. plan x ≡ p) → IfOk r (λ x. plan_typing schemas (plan x) ≡ Ok (kinds x)) → plan_typing schemas p ≡ Ok k → IfOk r (λ x. kinds x ≡ k)
same_kinds (Ok x) plan kinds schemas p k is typed h = let e : Ok (kinds x) ≡ Ok k = sym typed ∙ ap (plan_typing schemas) is ∙ h in cc
same_kinds (Err e) plan kinds schemas p k is typed h = tt

pub typed_anew-requires : goal.typed_anew-requires
typed_anew-requires c =
    subst IsOk
    (sym (ap (plan_typing c.args.schemas.now.kinds) (c.in_ok-normal.ensures ∙ ap (normal_plan c.args.schemas.now.kinds) c.plan-2.ensures.plan)
    ∙ c.normal_plans_mean_the_same.ensures.typing c.args.schemas.now.kinds c.args.plan.plan c.args.plan.kinds c.requires))
    refl

pub returns-clause-kinds : goal.returns-clause-kinds
returns-clause-kinds c =
    same_kinds c.typed_anew.result (λ t. t.plan) (λ t. t.kinds) c.args.schemas.now.kinds _ c.args.plan.kinds c.typed_anew.ensures.plan c.typed_anew.ensures.typing
    (ap (plan_typing c.args.schemas.now.kinds) (c.in_ok-normal.ensures ∙ ap (normal_plan c.args.schemas.now.kinds) c.plan-2.ensures.plan)
    ∙ c.normal_plans_mean_the_same.ensures.typing c.args.schemas.now.kinds c.args.plan.plan c.args.plan.kinds c.requires)

pub returns-clause-normal : goal.returns-clause-normal
returns-clause-normal c =
    carried c.typed_anew.result (λ t. t.plan) (IsNormalFormOf c.args.schemas.now.kinds c.args.plan.plan) _ (normal_plan c.args.schemas.now.kinds c.args.plan.plan) c.typed_anew.ensures.plan
    (c.in_ok-normal.ensures ∙ ap (normal_plan c.args.schemas.now.kinds) c.plan-2.ensures.plan)
    (c.steps_end_at_the_normal_form.ensures c.args.schemas.now.kinds c.args.plan.plan)

pub returns-clause-meaning : goal.returns-clause-meaning
returns-clause-meaning c =
    carried c.typed_anew.result (λ t. t.plan) (MeanTheSame c.args.schemas.now.kinds c.args.plan.plan) _ (normal_plan c.args.schemas.now.kinds c.args.plan.plan) c.typed_anew.ensures.plan
    (c.in_ok-normal.ensures ∙ ap (normal_plan c.args.schemas.now.kinds) c.plan-2.ensures.plan)
    (c.normal_plans_mean_the_same.ensures.meaning c.args.schemas.now.kinds c.args.plan.plan c.args.plan.kinds c.requires)

pub returns-clause-nesting : goal.returns-clause-nesting
returns-clause-nesting c =
    carried c.typed_anew.result (λ t. t.plan) (λ q. node_count c.args.plan.plan ≤ 40 → expr_count c.args.plan.plan ≤ 512 → nesting q ≤ 1024) _ (normal_plan c.args.schemas.now.kinds c.args.plan.plan) c.typed_anew.ensures.plan
    (c.in_ok-normal.ensures ∙ ap (normal_plan c.args.schemas.now.kinds) c.plan-2.ensures.plan)
    (c.normal_plans_are_not_deep.ensures.limits c.args.schemas.now.kinds c.args.plan.plan)
