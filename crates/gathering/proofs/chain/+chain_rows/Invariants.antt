-- A part of a plan has fewer operators than the plan.
use Rattle.plan_core.specs.PlainPlan.{plan_of}
use Rattle.plan_core.specs.OperatorCount.{operator_count}
use Rattle.gathering.proofs.chain.+chain_rows.Given as goal

abbrev pub decreases-chain_rows : goal.decreases-chain_rows
decreases-chain_rows l = operator_count (plan_of l.plan.now)
