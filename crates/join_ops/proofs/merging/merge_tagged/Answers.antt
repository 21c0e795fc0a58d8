use Rattle.std.proofs.Common.{sym, ap, subst, ◌∙◌}
use Rattle.plan_laws.specs.GrowthOfJoins.{IsMergedByPosition, merge_by_position}
use Rattle.plan_laws.specs.KeptForm.{tagged_from}
use Rattle.plan_laws.proofs.TaggedMerge.{merges, right_grows}
use Rattle.join_ops.proofs.merging.merge_tagged.Goals as goal

pub returns-clause-merged : goal.returns-clause-merged
returns-clause-merged c =
    subst (IsMergedByPosition c.args.old.items c.args.new.items) (sym c.in_ok-merged.ensures) (merges _ _ c.requires.old c.requires.new)

pub returns-clause-joins : goal.returns-clause-joins
returns-clause-joins c = λ first on lefts rights more old_is new_is.
    c.in_ok-merged.ensures ∙ ap (λ l. merge_by_position l c.args.new.items) old_is
    ∙ ap (merge_by_position (tagged_from first on lefts rights)) new_is ∙ sym (right_grows first on lefts rights more)
