use Rattle.growth_laws.proofs.PartTimes.{parts_within}
use Rattle.growth_laws.proofs.parts.machine_times_of_parts.Goals as goal

pub returns : goal.returns
returns c = λ extents results plan cuts r limit kept within is. parts_within extents limit results kept r plan cuts within is
