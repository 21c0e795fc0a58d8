use Rattle.std.proofs.Common.{◌∙◌, sym, ap, Ok}
use Rattle.plan_core.specs.PlainPlan.{leaves}
use Rattle.plan_core.specs.PlanTyping.{plan_typing}
use Rattle.catalog_core.proofs.Nested.{ok-some, ok-none}
use Rattle.catalog_core.proofs.Texts.{same-plan}
use Rattle.catalog_core.proofs.program.typed_plan.Goals as goal

pub returns-in-Ok-clause-found : goal.returns-in-Ok-clause-found
returns-in-Ok-clause-found c =
    ok-some c.typed_over.result (λ typed is. (c.in-Ok.ensures ∙ ap Ok (sym is.0), (λ i. plan_typing (sym c.requires i) (is.0 i)) ∙ is.1, is.2 ∙ ap leaves (sym is.0))) c.typed_over.ensures.found

pub returns-in-Ok-clause-none : goal.returns-in-Ok-clause-none
returns-in-Ok-clause-none c =
    ok-none c.typed_over.result (λ none plan kinds bound typed. none kinds ((λ i. plan_typing (c.requires i) (same-plan c.in-Ok.ensures bound i)) ∙ typed)) c.typed_over.ensures.none
