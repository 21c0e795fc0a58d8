use Rattle.std.proofs.Common.{◌∙◌}
use Rattle.plan_core.specs.PlainPlan.{plan_of}
use Rattle.cache_index.proofs.Searching.{best_of_all}
use Rattle.cache_index.proofs.indexed.best_of.Goals as goal

pub returns : goal.returns
returns c =
    best_of_all c.args.entries.now c.in_ok-program.program c.of_program-ids.result.now c.args.without.now (plan_of c.args.plan.now) c.args.cuts.now c.requires.ascend c.requires.keyed c.in_ok-program.ensures
    (c.of_program-ids.ensures ∙ c.requires.indexed.programs c.in_ok-program.program) c.in_ok-best.best c.in_ok-best.ensures
