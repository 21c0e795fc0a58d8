use Rattle.plan_canon.proofs.Depth.{not_deep, within_limits}
use Rattle.plan_canon.proofs.laws.normal_plans_are_not_deep.Goals as goal

pub returns : goal.returns
returns c = record { counts = not_deep; limits = within_limits }
