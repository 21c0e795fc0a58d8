use Rattle.growth_laws.proofs.PieceFiles.{files_are, delta_files_are}
use Rattle.growth_laws.proofs.pieces.files_of_pieces.Goals as goal

pub returns-clause-rewriting : goal.returns-clause-rewriting
returns-clause-rewriting c = λ plan cuts r. files_are r plan cuts

pub returns-clause-delta : goal.returns-clause-delta
returns-clause-delta c = λ plan old new d. delta_files_are d plan old new
