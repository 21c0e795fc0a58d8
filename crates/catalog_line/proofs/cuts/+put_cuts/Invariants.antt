-- Each call has a leaf less.
use Rattle.std.proofs.Common.{length}
use Rattle.catalog_line.proofs.cuts.+put_cuts.Given as goal

abbrev pub decreases-put_cuts : goal.decreases-put_cuts
decreases-put_cuts l = length l.names.now
