-- One value less at each call.
use Rattle.std.proofs.Common.{length}
use Rattle.rows_core.proofs.schema.+have_kinds_of.Given as goal

abbrev pub decreases-have_kinds_of : goal.decreases-have_kinds_of
decreases-have_kinds_of l = length l.values.now
