-- The keys of merged groups differ, and their accumulators were looked at.
use Rattle.std.proofs.Common.{sym, ap, ◌∙◌, subst, All}
use Rattle.row_blob.specs.declared.kept.Kept.TheVariants as kept
use Rattle.plan_laws.specs.GrowthOfGroups.{merged_groups}
use Rattle.rewrite_core.proofs.Looking.{never}
use Rattle.result_ops.proofs.BoundedGroups.{AreAccs, holds, bounded_groups}
use Rattle.result_ops.proofs.FitMerged.{merged_keys_differ}
use Rattle.result_ops.proofs.grown.merged.Goals as goal

pub returns-then-are_bounded : goal.returns-then-are_bounded
returns-then-are_bounded c =
    let groups = merged_groups c.args.aggs.now c.args.olds c.args.news.items in
    let same = c.in_ok-groups.ensures.merged ∙ ap (λ olds. merged_groups c.args.aggs.now olds c.args.news.items) c.into_vec.ensures in
    let all = subst (All (λ group. AreAccs c.args.aggs.now group.accs)) (c.deref.ensures.value ∙ same) (c.if-are_bounded.ensures.0 holds) in
    let bounds = bounded_groups c.args.aggs.now groups (merged_keys_differ c.args.aggs.now c.args.olds c.args.news.items c.requires.old.0 c.requires.new.0) all in
    (c.made_of_groups.ensures.kept ∙ ap kept.Groups same, c.made_of_groups.ensures.taken_in, bounds.0, bounds.1)

pub returns-else-are_bounded : goal.returns-else-are_bounded
returns-else-are_bounded c = λ bounds.
    let same = c.in_ok-groups.ensures.merged ∙ ap (λ olds. merged_groups c.args.aggs.now olds c.args.news.items) c.into_vec.ensures in
    never (c.if-are_bounded.ensures.1 (subst (All (λ group. AreAccs c.args.aggs.now group.accs)) (sym (c.deref.ensures.value ∙ same)) (λ i d within. (bounds.0.1 i d within, bounds.1 i d within))))
