use Rattle.plan_laws.proofs.FirstOfEqual.{differ, has_all, has_no_more, one_more}
use Rattle.rows_core.specs.Equality.{row_eq-Decides}
use Rattle.plan_laws.proofs.distinct.first_of_equal_rows.Goals as goal

pub returns-clause-differ : goal.returns-clause-differ
returns-clause-differ c = differ

pub returns-clause-members : goal.returns-clause-members
returns-clause-members c = λ rows row. (has_no_more rows row, has_all rows row)

pub returns-clause-one_more : goal.returns-clause-one_more
returns-clause-one_more c = one_more

pub returns-clause-equal : goal.returns-clause-equal
returns-clause-equal c = row_eq-Decides
