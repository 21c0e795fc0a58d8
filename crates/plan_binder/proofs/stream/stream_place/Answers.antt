use Rattle.std.proofs.Common.{◌∙◌}
use Rattle.plan_binder.proofs.BindingLaws.{place_of_lent}
use Rattle.plan_binder.proofs.stream.stream_place.Goals as goal

pub returns : goal.returns
returns g c = c.place_in.ensures ∙ place_of_lent g.S.Stream.name_of c.args.streams.now c.args.name.now
