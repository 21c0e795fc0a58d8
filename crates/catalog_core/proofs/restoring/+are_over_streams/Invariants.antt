-- One program less at each call.
use Rattle.std.proofs.Common.{length}
use Rattle.catalog_core.proofs.restoring.+are_over_streams.Given as goal

abbrev pub decreases-are_over_streams : goal.decreases-are_over_streams
decreases-are_over_streams l = length l.programs.now
