use Rattle.std.proofs.Common.{length}
use Rattle.executor.proofs.keeping.+found_at.Given as goal

abbrev pub decreases-found_at : goal.decreases-found_at
decreases-found_at l = length l.found.now
