use Rattle.result_ops.proofs.FitLaws.{one_fit, two_fit}
use Rattle.result_ops.proofs.laws.computed_results_are_fit.Goals as goal

pub returns-clause-one : goal.returns-clause-one
returns-clause-one c = one_fit c.typed_plans_give_typed_rows.ensures

pub returns-clause-two : goal.returns-clause-two
returns-clause-two c = two_fit c.typed_plans_give_typed_rows.ensures
