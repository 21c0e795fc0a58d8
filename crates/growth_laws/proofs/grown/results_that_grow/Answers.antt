use Rattle.growth_laws.proofs.GrownResults.{one_grown}
use Rattle.growth_laws.proofs.grown.results_that_grow.Goals as goal

pub returns : goal.returns
returns c = one_grown c.total_order.ensures
