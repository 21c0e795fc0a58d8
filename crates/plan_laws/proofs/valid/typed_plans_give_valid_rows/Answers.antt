-- By induction on the plan.
use Rattle.plan_laws.proofs.ValidPlans.{if_valid}
use Rattle.plan_laws.proofs.valid.typed_plans_give_valid_rows.Goals as goal

pub returns : goal.returns
returns c = if_valid c.values_are_cells.ensures.cells
