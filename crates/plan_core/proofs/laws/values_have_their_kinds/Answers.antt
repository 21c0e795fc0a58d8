-- By cases on the expression.
use Rattle.plan_core.proofs.ValueKinds.{typed_value}
use Rattle.plan_core.proofs.laws.values_have_their_kinds.Goals as goal

pub returns : goal.returns
returns c = typed_value
