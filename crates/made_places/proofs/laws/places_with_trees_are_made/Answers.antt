use Rattle.made_places.proofs.OwnTrees.{own_trees_are_made}
use Rattle.made_places.proofs.laws.places_with_trees_are_made.Goals as goal

pub returns : goal.returns
returns c = own_trees_are_made
