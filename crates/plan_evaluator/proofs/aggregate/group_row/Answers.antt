use Rattle.std.proofs.Common.{◌∙◌}
use Rattle.plan_evaluator.proofs.Loops.{has_member}
use Rattle.plan_evaluator.proofs.aggregate.group_row.Goals as goal

pub aggregates-requires : goal.aggregates-requires
aggregates-requires c =
    has_member c.args.keys.now c.args.rows.now c.args.key.now c.keys_of_groups.ensures.no_other c.keys_of_groups.ensures.members c.requires _ (c.items.ensures ∙ c.in_ok-members.ensures)
