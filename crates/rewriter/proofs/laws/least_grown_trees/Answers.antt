use Rattle.rewriter.proofs.LeastParts.{grown_one, grown_concat, grown_left, grown_right, grown_both}
use Rattle.rewriter.proofs.laws.least_grown_trees.Goals as goal

pub returns : goal.returns
returns c = record { one = grown_one; concat = grown_concat; left = grown_left; right = grown_right; both = grown_both }
