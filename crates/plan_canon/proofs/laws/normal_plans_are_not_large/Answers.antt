use Rattle.plan_canon.proofs.Large.{normal_nodes, normal_exprs_few}
use Rattle.plan_canon.proofs.laws.normal_plans_are_not_large.Goals as goal

pub returns : goal.returns
returns c = record { nodes = normal_nodes; exprs = normal_exprs_few }
