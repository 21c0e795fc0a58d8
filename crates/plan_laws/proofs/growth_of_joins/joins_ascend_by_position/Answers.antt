use Rattle.plan_laws.proofs.TaggedMerge.{tagged_ascends, positions_within}
use Rattle.plan_laws.proofs.growth_of_joins.joins_ascend_by_position.Goals as goal

pub returns : goal.returns
returns c = record { ascends = tagged_ascends; within = positions_within }
