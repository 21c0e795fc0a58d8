use Rattle.growth_laws.proofs.TreeOwners.{parts_own}
use Rattle.growth_laws.proofs.parts.results_of_parts.Goals as goal

pub returns : goal.returns
returns c = λ extents results plan cuts r is. parts_own extents results c.total_order.ensures r plan cuts is
