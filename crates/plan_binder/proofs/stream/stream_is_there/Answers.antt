use Rattle.std.proofs.Common.{◌∙◌, ap, map}
use Rattle.std.specs.Option.{is_some}
use Rattle.plan_binder.proofs.BindingLaws.{has_place}
use Rattle.plan_binder.proofs.stream.stream_is_there.Goals as goal

pub returns : goal.returns
returns g c = c.is_some.ensures ∙ ap is_some c.stream_place.ensures ∙ has_place (map g.S.Stream.name_of c.args.streams.now) c.args.name.now
