use Rattle.std.proofs.Common.{◌≡◌, ◌≤◌, ◌↔◌, ℕ, IsTrue, List, length, subst, arith}
use Rattle.rows_core.specs.declared.cut.Cut.{Cut}
use Rattle.plan_core.specs.PlainPlan.{PlainPlan, leaves}
use Rattle.plan_core.specs.TypedPlan.{TypedPlan}
use Rattle.catalog_core.specs.Programs.{IsPlanOf, AreCuts}
use Rattle.catalog_core.specs.Streams.{states_of}
use Rattle.catalog_core.proofs.Nested.{some-at, none-at}
use Rattle.catalog_core.proofs.Texts.{program-is, no-program}
use Rattle.catalog_core.proofs.program.is_program.Goals as goal

pub returns-in-Ok-Some : goal.returns-in-Ok-Some
returns-in-Ok-Some c =
    let streams = states_of c.args.streams.now in
    let typed : TypedPlan = c.in-Ok-Some.typed in
    let short : length c.items-text.result.now ≤ 65536 = omega (arith, c.if-text-gt-MAX_TEXT_BYTES.false) in
    let found = some-at (λ (t : TypedPlan). IsPlanOf streams c.items-text.result.now t.plan × (t.leaves ≡ leaves t.plan)) c.in-Ok-Some.field-0 typed c.in-Ok-Some.field-0-is c.in-Ok-Some.ensures.found in
    let only = some-at (λ (t : TypedPlan). (plan : PlainPlan) → IsPlanOf streams c.items-text.result.now plan → plan ≡ t.plan) c.in-Ok-Some.field-0 typed c.in-Ok-Some.field-0-is c.in-Ok-Some.ensures.only in
    program-is streams c.args.program.now typed c.are_cuts.result
    (subst (λ (text : List ℕ). length text ≤ 65536) c.items-text.ensures short)
    (subst (λ (text : List ℕ). IsPlanOf streams text typed.plan) c.items-text.ensures found.0)
    found.1
    (subst (λ (text : List ℕ). (plan : PlainPlan) → IsPlanOf streams text plan → plan ≡ typed.plan) c.items-text.ensures only)
    (subst (λ (cuts : List Cut). IsTrue c.are_cuts.result ↔ AreCuts streams typed.leaves cuts) c.items.ensures
    (subst (λ (ns : List ℕ). IsTrue c.are_cuts.result ↔ AreCuts streams ns c.items.result.now) c.leaves.ensures.leaves c.are_cuts.ensures))

pub returns-in-Ok-None : goal.returns-in-Ok-None
returns-in-Ok-None c =
    no-program (states_of c.args.streams.now) c.args.program.now
    (subst (λ (text : List ℕ). (plan : PlainPlan) → IsPlanOf (states_of c.args.streams.now) text plan → ⊥) c.items-text.ensures
    (none-at ((plan : PlainPlan) → IsPlanOf (states_of c.args.streams.now) c.items-text.result.now plan → ⊥) c.in-Ok-None.field-0 c.in-Ok-None.field-0-is c.in-Ok-None.ensures.none))
