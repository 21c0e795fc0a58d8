use Rattle.rewriter.proofs.WellFormed.{formed}
use Rattle.rewriter.proofs.laws.rewritings_are_formed.Goals as goal

pub returns : goal.returns
returns c = formed
