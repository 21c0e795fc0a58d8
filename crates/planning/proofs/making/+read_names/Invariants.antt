-- Fewer columns are left.
use Rattle.std.proofs.Common.{length}
use Rattle.planning.proofs.making.+read_names.Given as goal

abbrev pub decreases-read_names : goal.decreases-read_names
decreases-read_names l = length l.columns.now
