use Rattle.std.proofs.Common.{Err, ap}
use Rattle.catalog_core.proofs.Nested.{ok-some, ok-none}
use Rattle.catalog_core.proofs.Texts.{too-large, canonical-found, canonical-only, canonical-none}
use Rattle.catalog_core.proofs.program.canonical_plan.Goals as goal

pub returns-in-Ok-clause-found : goal.returns-in-Ok-clause-found
returns-in-Ok-clause-found c =
    ok-some c.if_canonical.result (λ same is. canonical-found c.args.text.now c.in-Ok.plan same c.in-Ok.ensures.found.0 c.in-Ok.ensures.found.1 is) c.if_canonical.ensures.found

pub returns-in-Ok-clause-only : goal.returns-in-Ok-clause-only
returns-in-Ok-clause-only c =
    ok-some c.if_canonical.result (λ same is. canonical-only c.one_plan.ensures.texts c.args.text.now c.in-Ok.plan same c.in-Ok.ensures.found.0 is) c.if_canonical.ensures.found

pub returns-in-Ok-clause-none : goal.returns-in-Ok-clause-none
returns-in-Ok-clause-none c =
    ok-none c.if_canonical.result (λ differs. canonical-none c.one_plan.ensures.texts c.args.text.now c.in-Ok.plan c.in-Ok.ensures.found.0 differs) c.if_canonical.ensures.none

pub returns-in-Err-Syntax-clause-none : goal.returns-in-Err-Syntax-clause-none
returns-in-Err-Syntax-clause-none c = λ tree is. c.in-Err-Syntax.ensures.syntax (ap Err c.in-Err-Syntax.field-0-is) tree is.0

pub returns-in-Err-Limit-clause-none : goal.returns-in-Err-Limit-clause-none
returns-in-Err-Limit-clause-none c =
    too-large c.one_plan.ensures.texts c.args.text.now c.in-Err-Limit.field-0-0 (c.in-Err-Limit.ensures.limit c.in-Err-Limit.field-0-0 (ap Err c.in-Err-Limit.field-0-is))
