use Rattle.executor.proofs.PieceTrees.{pieces_are}
use Rattle.executor.proofs.piece_laws.pieces_of_typed_rewritings.Goals as goal

pub returns : goal.returns
returns c = λ schemas plan cuts r is typed. pieces_are schemas r plan cuts is typed
