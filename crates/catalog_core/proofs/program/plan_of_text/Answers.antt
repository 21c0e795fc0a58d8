use Rattle.std.proofs.Common.{◌≡◌}
use Rattle.plan_text.specs.PlainNamed.{PlainTree}
use Rattle.catalog_core.specs.Programs.{IsCanonical}
use Rattle.catalog_core.specs.Streams.{states_of}
use Rattle.catalog_core.proofs.Nested.{ok-some, ok-none, some-at}
use Rattle.catalog_core.proofs.Texts.{one-bound, none-bound}
use Rattle.catalog_core.proofs.program.plan_of_text.Goals as goal

pub returns-in-Ok-Some-clause-found : goal.returns-in-Ok-Some-clause-found
returns-in-Ok-Some-clause-found c =
    ok-some c.typed_plan.result (λ typed is. (record { tree = c.in-Ok-Some.plan; canonical = some-at (λ plan. IsCanonical plan c.args.text.now) c.in-Ok-Some.field-0 c.in-Ok-Some.plan c.in-Ok-Some.field-0-is c.in-Ok-Some.ensures.found; bound = is.0; kinds = typed.kinds; typed = is.1 }, is.2)) c.typed_plan.ensures.found

pub returns-in-Ok-Some-clause-only : goal.returns-in-Ok-Some-clause-only
returns-in-Ok-Some-clause-only c =
    ok-some c.typed_plan.result (λ typed is plan given. one-bound (states_of c.args.streams.now) c.args.text.now c.in-Ok-Some.plan typed.plan plan (some-at (λ plan. (tree : PlainTree) → IsCanonical tree c.args.text.now → tree ≡ plan) c.in-Ok-Some.field-0 c.in-Ok-Some.plan c.in-Ok-Some.field-0-is c.in-Ok-Some.ensures.only) is.0 given) c.typed_plan.ensures.found

pub returns-in-Ok-Some-clause-none : goal.returns-in-Ok-Some-clause-none
returns-in-Ok-Some-clause-none c =
    ok-none c.typed_plan.result (λ none. none-bound (states_of c.args.streams.now) c.args.text.now c.in-Ok-Some.plan (some-at (λ plan. (tree : PlainTree) → IsCanonical tree c.args.text.now → tree ≡ plan) c.in-Ok-Some.field-0 c.in-Ok-Some.plan c.in-Ok-Some.field-0-is c.in-Ok-Some.ensures.only) none) c.typed_plan.ensures.none

pub returns-in-Ok-Some-clause-typed : goal.returns-in-Ok-Some-clause-typed
returns-in-Ok-Some-clause-typed c = ok-some c.typed_plan.result (λ typed is. is.1) c.typed_plan.ensures.found
