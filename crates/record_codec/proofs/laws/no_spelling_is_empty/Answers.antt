-- The tag is one.
use Rattle.record_codec.proofs.Lengths.{some_bytes}
use Rattle.record_codec.proofs.laws.no_spelling_is_empty.Goals as goal

pub returns : goal.returns
returns c = some_bytes
