use Rattle.growth_laws.proofs.ThereFiles.{files_there}
use Rattle.growth_laws.proofs.named.named_files_are_there.Goals as goal

pub returns : goal.returns
returns c = λ entries counts plan cuts r is within. files_there entries counts r plan cuts is within
