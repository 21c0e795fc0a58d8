-- Each step is on a shorter list.
use Rattle.std.proofs.Common.{length}
use Rattle.cache_index.proofs.spelled.+are_pairs.Given as goal

abbrev pub decreases-are_pairs : goal.decreases-are_pairs
decreases-are_pairs l = length l.pairs.now
