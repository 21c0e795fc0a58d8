use Rattle.std.proofs.Common.{rules, subst}
use Rattle.plan_core.specs.PlainPlan.{PlainPlan}
use Rattle.catalog_page.specs.ProgramKeys.{IsNormalKey}
use Rattle.catalog_page.proofs.program_keys.key_of_bound.Goals as goal

pub returns-in_ok-key_of_typed-in-Ok : goal.returns-in_ok-key_of_typed-in-Ok
returns-in_ok-key_of_typed-in-Ok c = (
  search rules,
  subst (λ (p : PlainPlan). IsNormalKey c.args.schemas.now.kinds p c.in_ok-key_of_typed-in-Ok.field-0) c.in-Ok.ensures.plan c.in_ok-key_of_typed-in-Ok.ensures,
)
