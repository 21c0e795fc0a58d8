use Rattle.growth_laws.proofs.LeafLists.{left_lists, right_lists}
use Rattle.growth_laws.proofs.lists.lists_of_two_inputs.Goals as goal

pub returns : goal.returns
returns c = record { left = left_lists; right = right_lists }
