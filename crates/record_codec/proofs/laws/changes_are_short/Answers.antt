-- The bounds of each part, added up.
use Rattle.record_codec.proofs.Lengths.{within_limits_len}
use Rattle.record_codec.proofs.laws.changes_are_short.Goals as goal

pub returns : goal.returns
returns c = within_limits_len
