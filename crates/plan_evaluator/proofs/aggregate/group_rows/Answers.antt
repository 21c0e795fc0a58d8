use Rattle.std.proofs.Common.{subst, sym, ◌∙◌, All, Contains}
use Rattle.std.proofs.lemmas.List.Elements.{All-contains_itself}
use Rattle.plan_core.specs.Group.{keys_of}
use Rattle.plan_evaluator.proofs.aggregate.group_rows.Goals as goal

pub groups_of-requires : goal.groups_of-requires
groups_of-requires c =
    subst (All (Contains (keys_of c.args.keys.now c.args.rows.now))) (sym (c.items.ensures ∙ c.in_ok-all_keys.ensures)) (All-contains_itself (keys_of c.args.keys.now c.args.rows.now))
