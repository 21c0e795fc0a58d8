-- By the table, and by cases on the expression.
use Rattle.plan_binder.proofs.CallRowLaws.{one_call, two_call, call_inside}
use Rattle.plan_binder.proofs.bind_laws.calls_without_a_row_have_no_kind.Goals as goal

pub returns-clause-one : goal.returns-clause-one
returns-clause-one c = one_call

pub returns-clause-two : goal.returns-clause-two
returns-clause-two c = two_call

pub returns-clause-inside : goal.returns-clause-inside
returns-clause-inside c = call_inside
