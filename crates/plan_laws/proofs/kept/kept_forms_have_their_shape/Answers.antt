-- By cases on the root of the plan.
use Rattle.plan_laws.proofs.KeptBounds.{kept_of}
use Rattle.plan_laws.proofs.kept.kept_forms_have_their_shape.Goals as goal

pub returns : goal.returns
returns c = kept_of c.total_order.ensures c.values_are_cells.ensures.cells
