use Rattle.growth_laws.proofs.ComputedNodes.{scan_made, one_made, two_made}
use Rattle.growth_laws.proofs.computed.results_that_are_computed.Goals as goal

pub returns : goal.returns
returns c = record { scan = scan_made; one = one_made; two = two_made }
