-- They are parts of the rewriting.
use Rattle.growth_laws.specs.Parts.{IsOwn}
use Rattle.executor.proofs.RecordedParts.{all_below}
use Rattle.executor.proofs.evaluation_laws.recorded_results_are_results.Goals as goal

pub returns : goal.returns
returns c = λ extents results plan cuts r is. all_below (IsOwn extents results) r (c.results_of_parts.ensures extents results plan cuts r is)
