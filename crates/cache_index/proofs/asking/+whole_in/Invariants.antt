-- Each step is on a shorter list.
use Rattle.std.proofs.Common.{length}
use Rattle.cache_index.proofs.asking.+whole_in.Given as goal

abbrev pub decreases-whole_in : goal.decreases-whole_in
decreases-whole_in l = length l.entries.now
