use Rattle.result_ops.proofs.FitLaws.{child_fit, distinct_fit, join_fit}
use Rattle.result_ops.proofs.laws.added_rows_are_fit.Goals as goal

pub returns-clause-child : goal.returns-clause-child
returns-clause-child c = child_fit c.typed_plans_give_typed_rows.ensures

pub returns-clause-distinct : goal.returns-clause-distinct
returns-clause-distinct c = distinct_fit c.typed_plans_give_typed_rows.ensures

pub returns-clause-join : goal.returns-clause-join
returns-clause-join c = join_fit c.typed_plans_give_typed_rows.ensures
