-- Fewer accumulators are left.
use Rattle.std.proofs.Common.{length}
use Rattle.result_ops.proofs.bounds.+are_accs.Given as goal

abbrev pub decreases-are_accs : goal.decreases-are_accs
decreases-are_accs l = length l.accs.now
