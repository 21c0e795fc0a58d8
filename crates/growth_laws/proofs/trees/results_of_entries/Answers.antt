use Rattle.growth_laws.proofs.NamedResults.{of_entries}
use Rattle.growth_laws.proofs.trees.results_of_entries.Goals as goal

pub returns : goal.returns
returns c = of_entries
