-- By cases on the tree.
use Rattle.plan_binder.proofs.CallRowLaws.{plan_without_row}
use Rattle.plan_binder.proofs.bind_laws.plans_without_a_row_have_no_typing.Goals as goal

pub returns : goal.returns
returns c = plan_without_row
