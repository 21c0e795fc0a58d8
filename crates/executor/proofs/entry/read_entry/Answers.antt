use Rattle.std.proofs.Common.{◌∙◌, ap}
use Rattle.plan_core.specs.PlainPlan.{plan_of}
use Rattle.plan_laws.specs.PlanShape.{plan_shape}
use Rattle.executor.proofs.Typings.{kinds_there}
use Rattle.executor.proofs.FileForms.{loaded_fits}
use Rattle.executor.proofs.entry.read_entry.Goals as goal

pub returns-clause-fit : goal.returns-clause-fit
returns-clause-fit g c =
    loaded_fits (g.P.Places.stream_kinds c.args.places.now) (plan_of c.args.plan.now) c.in_ok-shape.shape c.in_ok-kept.kept c.machine-machine.result c.made_before.result
    (kinds_there (g.P.Places.stream_kinds c.args.places.now) (plan_of c.args.plan.now) c.requires.typed)
    (c.in_ok-shape.ensures ∙ ap (λ s. plan_shape s (plan_of c.args.plan.now)) c.schemas.ensures) c.in_ok-kept.ensures.kept c.made_before.ensures.made c.made_before.ensures.bounded
