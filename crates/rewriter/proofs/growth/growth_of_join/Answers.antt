use Rattle.std.proofs.Common.{ap, ◌∙◌}
use Rattle.plan_core.specs.PlainPlan.{plan_of}
use Rattle.rewrite_core.specs.IsRewriting.{lefts, rights}
use Rattle.rewriter.proofs.growth.growth_of_join.Goals as goal

pub growth_of_inputs-requires : goal.growth_of_inputs-requires
growth_of_inputs-requires c =
    record {
      inputs = record {
        join = c.requires.sides;
        left = c.requires.left;
        right = c.requires.right;
        old_lefts = c.sides.ensures.lefts ∙ ap (lefts (plan_of c.args.left.now)) c.items.ensures;
        new_lefts = c.sides-2.ensures.lefts;
        old_rights = c.sides.ensures.rights ∙ ap (rights (plan_of c.args.left.now)) c.items.ensures;
        new_rights = c.sides-2.ensures.rights;
      };
    }
