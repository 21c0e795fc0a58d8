use Rattle.std.proofs.Common.{length}
use Rattle.executor.proofs.cuts.+put_added.Given as goal

abbrev pub decreases-put_added : goal.decreases-put_added
decreases-put_added l = length l.old.now
