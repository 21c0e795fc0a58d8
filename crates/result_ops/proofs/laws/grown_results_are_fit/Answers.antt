use Rattle.result_ops.proofs.FitLaws.{grown_fit, left_fit, right_fit, both_fit}
use Rattle.result_ops.proofs.laws.grown_results_are_fit.Goals as goal

pub returns-clause-one : goal.returns-clause-one
returns-clause-one c = grown_fit c.typed_plans_give_typed_rows.ensures

pub returns-clause-left : goal.returns-clause-left
returns-clause-left c = left_fit c.typed_plans_give_typed_rows.ensures

pub returns-clause-right : goal.returns-clause-right
returns-clause-right c = right_fit c.typed_plans_give_typed_rows.ensures

pub returns-clause-both : goal.returns-clause-both
returns-clause-both c = both_fit c.typed_plans_give_typed_rows.ensures
