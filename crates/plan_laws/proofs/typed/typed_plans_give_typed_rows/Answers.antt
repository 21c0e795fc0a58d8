use Rattle.plan_laws.proofs.TypedPlans.{if_given}
use Rattle.plan_laws.proofs.typed.typed_plans_give_typed_rows.Goals as goal

pub returns : goal.returns
returns c = if_given c.total_order.ensures
