-- The rows that may overflow have cells at which they do, and the others none.
use Rattle.scalar_ops.proofs.RowLaws.{one_row}
use Rattle.scalar_ops.proofs.ValueLaws.{all_say}
use Rattle.scalar_ops.proofs.laws.table_as_stated.Goals as goal

pub returns-clause-overflows : goal.returns-clause-overflows
returns-clause-overflows c = all_say

pub returns-clause-one_row : goal.returns-clause-one_row
returns-clause-one_row c = one_row
