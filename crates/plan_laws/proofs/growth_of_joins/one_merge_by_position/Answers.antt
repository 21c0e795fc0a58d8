use Rattle.plan_laws.proofs.TaggedMerge.{merges, only_merge}
use Rattle.plan_laws.proofs.growth_of_joins.one_merge_by_position.Goals as goal

pub returns : goal.returns
returns c = record { merged = merges; only = only_merge }
