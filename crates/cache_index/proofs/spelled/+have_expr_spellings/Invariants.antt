-- Each step is on a shorter list.
use Rattle.std.proofs.Common.{length}
use Rattle.cache_index.proofs.spelled.+have_expr_spellings.Given as goal

abbrev pub decreases-have_expr_spellings : goal.decreases-have_expr_spellings
decreases-have_expr_spellings l = length l.exprs.now
