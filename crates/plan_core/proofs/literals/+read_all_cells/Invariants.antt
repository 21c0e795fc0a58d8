-- One item less at each call.
use Rattle.std.proofs.Common.{length}
use Rattle.plan_core.proofs.literals.+read_all_cells.Given as goal

abbrev pub decreases-read_all_cells : goal.decreases-read_all_cells
decreases-read_all_cells l = length l.exprs.now
