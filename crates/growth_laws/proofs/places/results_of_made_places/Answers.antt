use Rattle.growth_laws.specs.MadePlaces.{places, standing_of}
use Rattle.growth_laws.proofs.MadeOnes.{tree_aligned, made_ones}
use Rattle.growth_laws.proofs.places.results_of_made_places.Goals as goal

pub returns : goal.returns
returns c = λ extents results plan cuts r is.
    made_ones extents results (places plan cuts) (standing_of r) (tree_aligned extents results c.total_order.ensures r plan cuts cuts is)
