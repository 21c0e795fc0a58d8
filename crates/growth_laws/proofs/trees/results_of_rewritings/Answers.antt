use Rattle.growth_laws.specs.KeptResults.{kept_among}
use Rattle.growth_laws.proofs.MadeTrees.{tree_made}
use Rattle.growth_laws.proofs.NamedResults.{as_named, rows_so, machine_so}
use Rattle.growth_laws.proofs.trees.results_of_rewritings.Goals as goal

pub returns : goal.returns
returns c = record {
  made = λ extents results plan cuts r is. tree_made extents results (kept_among extents results) (as_named extents results) c.total_order.ensures r plan cuts is;
  rows = λ extents results plan cuts r is.
      rows_so plan _ _ (tree_made extents results (kept_among extents results) (as_named extents results) c.total_order.ensures r plan cuts is);
  machine = λ extents results plan cuts r is.
      machine_so plan _ _ (tree_made extents results (kept_among extents results) (as_named extents results) c.total_order.ensures r plan cuts is);
}
