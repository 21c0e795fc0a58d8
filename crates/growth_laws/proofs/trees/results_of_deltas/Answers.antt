use Rattle.growth_laws.specs.KeptResults.{kept_among}
use Rattle.growth_laws.proofs.MadeTrees.{delta_made}
use Rattle.growth_laws.proofs.NamedResults.{as_named}
use Rattle.growth_laws.proofs.trees.results_of_deltas.Goals as goal

pub returns : goal.returns
returns c = λ extents results plan old new d intervals is.
    delta_made extents results (kept_among extents results) (as_named extents results) c.total_order.ensures d plan old new intervals is
