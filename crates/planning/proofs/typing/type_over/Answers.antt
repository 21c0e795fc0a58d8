use Rattle.std.proofs.Common.{◌≡◌, Ok, sym, subst, ap, inl}
use Rattle.plan_core.specs.declared.refusal.PlanRefusal.{PlanRefusal}
use Rattle.plan_core.specs.PlainPlan.{PlainPlan, plan_of}
use Rattle.plan_core.specs.PlanTyping.{plan_typing}
use Rattle.planning.specs.Running.{typed_refusal}
use Rattle.planning.proofs.RunLemmas.{typing_refusal}
use Rattle.planning.proofs.typing.type_over.Goals as goal

pub returns-in-Ok-clause-typed : goal.returns-in-Ok-clause-typed
returns-in-Ok-clause-typed c =
    subst (λ (p : PlainPlan). plan_typing c.args.schemas.now.kinds p ≡ Ok c.in-Ok.typed.kinds) (sym c.in-Ok.ensures.plan) c.in-Ok.ensures.typing

pub returns-in-Err-IllTyped-clause-err : goal.returns-in-Err-IllTyped-clause-err
returns-in-Err-IllTyped-clause-err c =
    let is = subst (λ (r : PlanRefusal). typing_refusal r (plan_typing c.args.schemas.now.kinds (plan_of c.args.plan))) c.in-Err-IllTyped.field-0-is c.in-Err-IllTyped.ensures.typing in
    inl (ap typed_refusal is)

pub returns-in-Err-TooMany-clause-err : goal.returns-in-Err-TooMany-clause-err
returns-in-Err-TooMany-clause-err c =
    let is = subst (λ (r : PlanRefusal). typing_refusal r (plan_typing c.args.schemas.now.kinds (plan_of c.args.plan))) c.in-Err-TooMany.field-0-is c.in-Err-TooMany.ensures.typing in
    inl (ap typed_refusal is)
