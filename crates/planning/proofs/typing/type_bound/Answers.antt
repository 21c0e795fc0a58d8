use Rattle.std.proofs.Common.{◌≡◌, List, Some, Err, IfOk, IfErr, subst, ◌⊎◌}
use Rattle.plan_core.specs.declared.refusal.PlanRefusal.TheVariants.{Unknown}
use Rattle.plan_core.specs.PlainPlan.{plan_of}
use Rattle.plan_core.specs.PlanTyping.{Kinds, plan_typing}
use Rattle.plan_core.specs.TypedPlan.{IsTypedOver}
use Rattle.catalog_core.specs.Catalogs.{table_of}
use Rattle.script_text.specs.declared.answer.Refusal.TheVariants.{Memory}
use Rattle.planning.specs.Running.{typed_refusal}
use Rattle.planning.proofs.RunLemmas.{never_unknown}
use Rattle.planning.proofs.typing.type_bound.Goals as goal

pub type_over-requires : goal.type_over-requires
type_over-requires c = λ number e.
    never_unknown (table_of c.args.catalog.now).streams c.requires.0 (plan_of c.args.plan) c.requires.1 c.leaves_are_the_streams.ensures number
    (subst (λ (k : List Kinds). plan_typing k (plan_of c.args.plan) ≡ Err (Unknown number)) c.schemas.ensures e)

pub returns-clause-typed : goal.returns-clause-typed
returns-clause-typed c =
    subst (λ (k : List Kinds). IfOk c.type_over.result (IsTypedOver k)) c.schemas.ensures c.type_over.ensures.typed

pub returns-clause-err : goal.returns-clause-err
returns-clause-err c =
    subst (λ (k : List Kinds). IfErr c.type_over.result (λ why. (typed_refusal (plan_typing k (plan_of c.args.plan)) ≡ Some why) ⊎ (why ≡ Memory))) c.schemas.ensures c.type_over.ensures.err
