use Rattle.std.proofs.Common.{length}
use Rattle.entry_table.proofs.keys.+put_chains.Given as goal

abbrev pub decreases-put_chains : goal.decreases-put_chains
decreases-put_chains g l = length l.leaves.now
