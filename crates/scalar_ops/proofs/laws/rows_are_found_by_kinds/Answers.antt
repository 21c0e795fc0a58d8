-- The test decides.
use Rattle.scalar_ops.proofs.RowLaws.{is_row_for-Decides}
use Rattle.scalar_ops.proofs.laws.rows_are_found_by_kinds.Goals as goal

pub returns : goal.returns
returns c = is_row_for-Decides
