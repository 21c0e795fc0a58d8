-- By cases on the tree.
use Rattle.plan_binder.proofs.BoundPlans.{bound_kinds}
use Rattle.plan_binder.proofs.bind_laws.kinds_are_of_the_typing.Goals as goal

pub returns : goal.returns
returns c = λ streams schemas tree b kinds is typed. bound_kinds streams schemas tree b is kinds typed
