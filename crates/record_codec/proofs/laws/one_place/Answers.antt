-- Of two places the lesser doesn't begin a spelling with its byte, and the other says that it does.
use Rattle.record_codec.proofs.Told.{one_place}
use Rattle.record_codec.proofs.laws.one_place.Goals as goal

pub returns : goal.returns
returns c = one_place
