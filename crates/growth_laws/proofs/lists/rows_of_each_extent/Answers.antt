use Rattle.growth_laws.proofs.LeafLists.{no_rows, one_extent_rows}
use Rattle.growth_laws.proofs.lists.rows_of_each_extent.Goals as goal

pub returns : goal.returns
returns c = record { none = no_rows; one = one_extent_rows }
