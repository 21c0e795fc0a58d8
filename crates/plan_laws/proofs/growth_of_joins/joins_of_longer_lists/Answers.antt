use Rattle.plan_laws.proofs.TaggedMerge.{left_grows, merge_grows, both_grow}
use Rattle.plan_laws.proofs.growth_of_joins.joins_of_longer_lists.Goals as goal

pub returns : goal.returns
returns c = record { left = left_grows; right = merge_grows; both = both_grow }
