-- What is spelled so is read as what it spells.
use Rattle.plan_spelling.proofs.Told.{one_spelling}
use Rattle.plan_spelling.proofs.reading.one_spelling.Goals as goal

pub returns : goal.returns
returns c = one_spelling
