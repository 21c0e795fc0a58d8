use Rattle.growth_laws.proofs.PieceResults.{gathered, chain_added}
use Rattle.growth_laws.proofs.pieces.results_of_pieces.Goals as goal

pub returns-clause-rewriting : goal.returns-clause-rewriting
returns-clause-rewriting c = gathered

pub returns-clause-delta : goal.returns-clause-delta
returns-clause-delta c = λ extents results plan old new d. chain_added extents results d plan old new
