use Rattle.plan_laws.proofs.GrowingTwo.{join_grows, concat_grows}
use Rattle.plan_laws.proofs.growth_of_joins.growth_of_two_inputs.Goals as goal

pub returns : goal.returns
returns c = record { join = join_grows; concat = concat_grows }
