use Rattle.std.proofs.Common.{◌≡◌, ◌⊎◌, Some, sym, subst}
use Rattle.plan_core.specs.PlainPlan.{plan_of}
use Rattle.catalog_core.specs.Catalogs.{table_of}
use Rattle.script_text.specs.declared.answer.Refusal.{Refusal}
use Rattle.script_text.specs.declared.answer.Refusal.TheVariants.{Memory}
use Rattle.planning.specs.Running.{plan_refusal}
use Rattle.planning.proofs.RunLemmas.{IfErr-bound, refused_unbound}
use Rattle.planning.proofs.typing.typed_plan.Goals as goal

pub type_bound-requires : goal.type_bound-requires
type_bound-requires c = (c.args.plan.now, c.in-Ok.ensures)

pub returns-in-Ok-clause-err : goal.returns-in-Ok-clause-err
returns-in-Ok-clause-err c =
    IfErr-bound (table_of c.args.catalog.now).streams c.args.plan.now (plan_of c.in-Ok.bound) c.in-Ok.ensures c.type_bound.result c.type_bound.ensures.err

pub returns-in-Err-clause-err : goal.returns-in-Err-clause-err
returns-in-Err-clause-err c =
    subst (λ (why : Refusal). (plan_refusal (table_of c.args.catalog.now).streams c.args.plan.now ≡ Some why) ⊎ (why ≡ Memory)) (sym c.unbound.ensures) (refused_unbound (table_of c.args.catalog.now).streams c.args.plan.now c.in-Err.refusal c.in-Err.ensures)
