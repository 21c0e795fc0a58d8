-- Each tree that stands at a place and counts is recorded.
use Rattle.std.specs.List.{Contains}
use Rattle.growth_laws.specs.KeptResults.{kept_among}
use Rattle.growth_laws.specs.MadePlaces.{places, standing_of}
use Rattle.growth_laws.proofs.MadeOnes.{tree_aligned}
use Rattle.executor.specs.Recording.{recorded_of}
use Rattle.executor.proofs.StandingTrees.{tree_counted, each_in, places_found}
use Rattle.executor.proofs.evaluation_laws.made_places_are_recorded.Goals as goal

pub returns : goal.returns
returns c = λ extents results plan cuts r is.
    places_found extents results (recorded_of r) (places plan cuts) (standing_of r) (tree_aligned extents results c.total_order.ensures r plan cuts cuts is)
    (tree_counted (kept_among extents results) (Contains (recorded_of r)) r plan cuts is (each_in (recorded_of r)))
