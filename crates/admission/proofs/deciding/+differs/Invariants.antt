use Rattle.std.proofs.Common.{length}
use Rattle.admission.proofs.deciding.+differs.Given as goal

abbrev pub decreases-differs : goal.decreases-differs
decreases-differs l = length l.before.now
