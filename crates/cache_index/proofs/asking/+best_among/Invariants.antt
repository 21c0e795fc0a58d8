-- Each step is on a shorter list.
use Rattle.std.proofs.Common.{length}
use Rattle.cache_index.proofs.asking.+best_among.Given as goal

abbrev pub decreases-best_among : goal.decreases-best_among
decreases-best_among l = length l.ids.now
