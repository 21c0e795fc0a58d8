-- One leaf less at each call.
use Rattle.std.proofs.Common.{length}
use Rattle.catalog_core.proofs.chains.+know_chains_at.Given as goal

abbrev pub decreases-know_chains_at : goal.decreases-know_chains_at
decreases-know_chains_at l = length l.leaves.now
