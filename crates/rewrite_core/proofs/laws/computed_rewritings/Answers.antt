use Rattle.rewrite_core.specs.IsRewriting.{among}
use Rattle.rewrite_core.proofs.ComputedTrees.{computed_is}
use Rattle.rewrite_core.proofs.laws.computed_rewritings.Goals as goal

pub returns : goal.returns
returns c = λ entries plan cuts. computed_is (among entries) plan cuts
