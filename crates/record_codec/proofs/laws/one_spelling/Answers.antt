-- What is spelled so is read as what it spells.
use Rattle.record_codec.proofs.Told.{one_spelling}
use Rattle.record_codec.proofs.laws.one_spelling.Goals as goal

pub returns : goal.returns
returns c = one_spelling
