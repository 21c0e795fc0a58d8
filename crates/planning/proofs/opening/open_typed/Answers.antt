use Rattle.std.proofs.Common.{◌∙◌}
use Rattle.catalog_core.specs.Catalogs.{table_of}
use Rattle.catalog_core.specs.Streams.{states_of}
use Rattle.plan_core.specs.PlainPlan.{leaves}
use Rattle.planning.proofs.Stored.{same_cuts, planned_job}
use Rattle.planning.proofs.opening.open_typed.Goals as goal

pub returns-in-None-clause-plan : goal.returns-in-None-clause-plan
returns-in-None-clause-plan c =
    planned_job (table_of c.args.catalog.now) c.args.name c.args.plan.now c.args.typed c.requires.limits c.requires.bound c.requires.typed c.in-Ok.program c.in-Ok.ensures.name c.in-Ok.ensures.text c.in-Ok.ensures.spells
    (c.in-Ok.ensures.cuts ∙ same_cuts (states_of c.streams.result.now) (table_of c.args.catalog.now).streams c.leaves.result.now (leaves c.args.typed.plan) c.streams.ensures.states (c.leaves.ensures.leaves ∙ c.leaves.ensures.typed.1))
    (c.counts_are_of_the_written_plan.ensures.limits _ _ c.args.plan.now c.args.typed.plan c.requires.bound c.requires.limits)
    c.in-None.ensures.text
