use Rattle.plan_canon.proofs.NormalParts.{parts_normal}
use Rattle.plan_canon.proofs.laws.parts_of_normal_plans_are_normal.Goals as goal

pub returns : goal.returns
returns c = parts_normal
