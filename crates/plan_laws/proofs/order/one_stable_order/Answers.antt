use Rattle.plan_laws.proofs.Insertion.{ordered, only}
use Rattle.plan_laws.proofs.order.one_stable_order.Goals as goal

pub returns-clause-ordered : goal.returns-clause-ordered
returns-clause-ordered c = λ keys. ordered keys (c.total_order.ensures keys)

pub returns-clause-only : goal.returns-clause-only
returns-clause-only c = λ keys. only keys (c.total_order.ensures keys)
