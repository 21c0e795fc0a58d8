-- The new groups are those of the new rows.
use Rattle.std.proofs.Common.{ap, ◌∙◌, subst}
use Rattle.plan_laws.specs.GrowthOfGroups.{groups_of, merged_groups}
use Rattle.result_ops.specs.Steps.{Merges}
use Rattle.result_ops.proofs.grown.grouped.Goals as goal

pub returns : goal.returns
returns c =
    subst (λ news. Merges c.args.news.taken_in c.args.aggs.now (merged_groups c.args.aggs.now c.args.olds news) c.merged.result)
    (c.in_ok-groups.ensures.groups ∙ ap (λ rows. groups_of c.args.keys.now c.args.aggs.now rows) c.deref.ensures.value) c.merged.ensures
