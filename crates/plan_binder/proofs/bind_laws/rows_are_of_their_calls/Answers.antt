-- By the table.
use Rattle.plan_binder.proofs.OpRowLaws.{keeps_operation, row_of_kinds}
use Rattle.plan_binder.proofs.bind_laws.rows_are_of_their_calls.Goals as goal

pub returns-clause-operation : goal.returns-clause-operation
returns-clause-operation c = keeps_operation

pub returns-clause-kinds : goal.returns-clause-kinds
returns-clause-kinds c = row_of_kinds
