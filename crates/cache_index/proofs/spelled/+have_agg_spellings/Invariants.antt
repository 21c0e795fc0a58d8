-- Each step is on a shorter list.
use Rattle.std.proofs.Common.{length}
use Rattle.cache_index.proofs.spelled.+have_agg_spellings.Given as goal

abbrev pub decreases-have_agg_spellings : goal.decreases-have_agg_spellings
decreases-have_agg_spellings l = length l.aggs.now
