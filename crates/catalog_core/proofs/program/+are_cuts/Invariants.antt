-- One leaf less at each call.
use Rattle.std.proofs.Common.{length}
use Rattle.catalog_core.proofs.program.+are_cuts.Given as goal

abbrev pub decreases-are_cuts : goal.decreases-are_cuts
decreases-are_cuts l = length l.leaves.now
