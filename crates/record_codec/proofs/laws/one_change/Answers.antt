-- Both are read from these bytes.
use Rattle.record_codec.proofs.Told.{one_change}
use Rattle.record_codec.proofs.laws.one_change.Goals as goal

pub returns : goal.returns
returns c = one_change
