-- The rows of a join ascend by position, and have one merge.
use Rattle.std.proofs.Common.{sym, subst}
use Rattle.plan_laws.specs.GrowthOfJoins.{AscendsByPosition, IsMergedByPosition}
use Rattle.plan_laws.specs.KeptForm.{tagged_from}
use Rattle.plan_laws.proofs.TaggedMerge.{tagged_ascends, only_merge}
use Rattle.result_ops.proofs.FitJoins.{of_ok}
use Rattle.result_ops.proofs.joins.with_new_rights.Goals as goal

pub merge_tagged-requires-clause-new : goal.merge_tagged-requires-clause-new
merge_tagged-requires-clause-new c = subst AscendsByPosition (sym c.in_ok-joined.ensures) (tagged_ascends 0 c.args.on.now c.args.lefts.now c.args.news.now)

pub returns : goal.returns
returns c =
    let new = tagged_from 0 c.args.on.now c.args.lefts.now c.args.news.now in
    of_ok c.merge_tagged.result
    (λ rows merged. only_merge c.args.tagged.items new rows.items c.requires (tagged_ascends 0 c.args.on.now c.args.lefts.now c.args.news.now)
    (subst (λ n. IsMergedByPosition c.args.tagged.items n rows.items) c.in_ok-joined.ensures merged))
    c.merge_tagged.ensures.merged
