use Rattle.std.proofs.Common.{◌≡◌, ◌∙◌, ◌↔◌, ap, sym, subst, ℕ, List, IsTrue, Ok}
use Rattle.plan_core.specs.PlainPlan.{leaves, plan_of}
use Rattle.plan_core.specs.PlanTyping.{Kinds, plan_typing}
use Rattle.plan_core.specs.TypedPlan.{TypedPlan}
use Rattle.plan_spelling.specs.Spelling.{HasPlanSpelling}
use Rattle.catalog_core.specs.Programs.{AreCuts}
use Rattle.catalog_core.specs.Streams.{states_of}
use Rattle.catalog_core.proofs.Nested.{some-at, none-at}
use Rattle.catalog_core.proofs.OverStreams.{over-decided, not-over}
use Rattle.catalog_core.proofs.results.is_over.Goals as goal

pub returns-in-Ok-Some-clause-over : goal.returns-in-Ok-Some-clause-over
returns-in-Ok-Some-clause-over c =
    let streams = states_of c.args.streams.now in
    let schemas = c.args.schemas.now.kinds in
    let typed : TypedPlan = c.in-Ok-Some.typed in
    let plan = plan_of c.in_ok-copy.copy in
    let found = some-at (λ (t : TypedPlan). (t.plan ≡ plan) × (plan_typing schemas plan ≡ Ok t.kinds) × (t.leaves ≡ leaves plan)) c.in-Ok-Some.field-0 typed c.in-Ok-Some.field-0-is c.in-Ok-Some.ensures.found in
    let same : plan ≡ (plan_of c.args.plan.now) = c.in_ok-copy.ensures in
    over-decided streams schemas (plan_of c.args.plan.now) c.args.cuts.now typed.kinds typed.leaves c.are_cuts.result c.requires
    (ap (plan_typing schemas) (sym same) ∙ found.1)
    (found.2 ∙ ap leaves same)
    (subst (λ (ns : List ℕ). IsTrue c.are_cuts.result ↔ AreCuts streams ns c.args.cuts.now) c.leaves.ensures.leaves c.are_cuts.ensures)

pub returns-in-Ok-Some-clause-spelled : goal.returns-in-Ok-Some-clause-spelled
returns-in-Ok-Some-clause-spelled c =
    let schemas = c.args.schemas.now.kinds in
    let typed : TypedPlan = c.in-Ok-Some.typed in
    let plan = plan_of c.in_ok-copy.copy in
    let found = some-at (λ (t : TypedPlan). (t.plan ≡ plan) × (plan_typing schemas plan ≡ Ok t.kinds) × (t.leaves ≡ leaves plan)) c.in-Ok-Some.field-0 typed c.in-Ok-Some.field-0-is c.in-Ok-Some.ensures.found in
    λ _. subst HasPlanSpelling (found.0 ∙ c.in_ok-copy.ensures) c.typed_plan_has_spelling.ensures

pub returns-in-Ok-None-clause-over : goal.returns-in-Ok-None-clause-over
returns-in-Ok-None-clause-over c =
    let schemas = c.args.schemas.now.kinds in
    let plan = plan_of c.in_ok-copy.copy in
    not-over (states_of c.args.streams.now) schemas (plan_of c.args.plan.now) c.args.cuts.now c.requires
    (λ kinds typed. none-at ((kinds : Kinds) → plan_typing schemas plan ≡ Ok kinds → ⊥) c.in-Ok-None.field-0 c.in-Ok-None.field-0-is c.in-Ok-None.ensures.none kinds (ap (plan_typing schemas) c.in_ok-copy.ensures ∙ typed))
