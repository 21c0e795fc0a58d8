use Rattle.rewriter.proofs.LeastParts.{read_whole}
use Rattle.rewriter.proofs.laws.least_read_trees.Goals as goal

pub returns : goal.returns
returns c = read_whole
