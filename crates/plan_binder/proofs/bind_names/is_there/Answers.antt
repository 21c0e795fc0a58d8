use Rattle.std.proofs.Common.{◌∙◌, ap}
use Rattle.std.specs.Option.{is_some}
use Rattle.plan_binder.proofs.BindingLaws.{has_place}
use Rattle.plan_binder.proofs.bind_names.is_there.Goals as goal

pub returns : goal.returns
returns c = c.is_some.ensures ∙ ap is_some c.position_of.ensures ∙ has_place c.args.names.now c.args.name.now
