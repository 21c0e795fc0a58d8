use Rattle.rewriter.proofs.LeastParts.{computed_scan, computed_one, computed_two}
use Rattle.rewriter.proofs.laws.least_computed_trees.Goals as goal

pub returns : goal.returns
returns c = record { scan = computed_scan; one = computed_one; two = computed_two }
