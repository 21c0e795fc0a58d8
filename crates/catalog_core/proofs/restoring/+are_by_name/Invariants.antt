-- One program less at each call.
use Rattle.std.proofs.Common.{length}
use Rattle.catalog_core.proofs.restoring.+are_by_name.Given as goal

abbrev pub decreases-are_by_name : goal.decreases-are_by_name
decreases-are_by_name l = length l.programs.now
