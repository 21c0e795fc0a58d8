use Rattle.std.proofs.Common.{length}
use Rattle.executor.proofs.job.+held_of.Given as goal

abbrev pub decreases-held_of : goal.decreases-held_of
decreases-held_of l = length l.parts.now
