use Rattle.std.proofs.Common.{◌≡◌, sym, subst, List, ℕ}
use Rattle.plan_core.specs.PlainPlan.{PlainPlan, leaves}
use Rattle.plan_core.specs.TypedPlan.{TypedPlan}
use Rattle.catalog_core.specs.Programs.{AreCuts, IsPlanOf}
use Rattle.catalog_core.specs.Streams.{states_of}
use Rattle.catalog_core.proofs.Nested.{some-at, none-at}
use Rattle.catalog_core.proofs.StoredPrograms.{cuts-stable}
use Rattle.catalog_core.proofs.stored.stored_plan.Goals as goal

pub unreachable-requires : goal.unreachable-requires
unreachable-requires c =
    c.requires.stored (λ is. subst (λ (text : List ℕ). (plan : PlainPlan) → IsPlanOf (states_of c.args.streams.now) text plan → ⊥) c.items.ensures
    (none-at ((plan : PlainPlan) → IsPlanOf (states_of c.args.streams.now) c.items.result.now plan → ⊥) c.in-Ok-None.field-0 c.in-Ok-None.field-0-is c.in-Ok-None.ensures.none) is.plan is.is_plan)

pub returns-in-Ok-Some-clause-cuts : goal.returns-in-Ok-Some-clause-cuts
returns-in-Ok-Some-clause-cuts c =
    let streams = states_of c.args.streams.now in
    let only = some-at (λ (t : TypedPlan). (plan : PlainPlan) → IsPlanOf streams c.items.result.now plan → plan ≡ t.plan) c.in-Ok-Some.field-0 c.in-Ok-Some.typed c.in-Ok-Some.field-0-is c.in-Ok-Some.ensures.only in
    cuts-stable streams (leaves c.in-Ok-Some.typed.plan) c.args.program.now.cuts
    (λ none. c.requires.stored (λ is. none (subst (λ (plan : PlainPlan). AreCuts streams (leaves plan) c.args.program.now.cuts)
    (only is.plan (subst (λ (text : List ℕ). IsPlanOf streams text is.plan) (sym c.items.ensures) is.is_plan)) is.are_cuts)))
