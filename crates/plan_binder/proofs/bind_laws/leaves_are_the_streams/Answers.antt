-- By cases on the tree.
use Rattle.plan_binder.proofs.BoundPlans.{bound_leaves}
use Rattle.plan_binder.proofs.bind_laws.leaves_are_the_streams.Goals as goal

pub returns : goal.returns
returns c = λ streams schemas tree b is. bound_leaves streams schemas tree b is
