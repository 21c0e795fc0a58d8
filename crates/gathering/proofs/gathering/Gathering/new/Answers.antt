use Rattle.plan_core.specs.PlainPlan.{plan_of}
use Rattle.gathering.proofs.Gatherings.{none_gathers}
use Rattle.gathering.proofs.gathering.Gathering.new.Goals as goal

pub returns-clause-none : goal.returns-clause-none
returns-clause-none c = λ schemas typed.
    none_gathers c.typed_plans_give_typed_rows.ensures schemas (plan_of c.args.plan) c.requires c.new-held.result c.new-held.ensures.form c.new-held.ensures.none typed
