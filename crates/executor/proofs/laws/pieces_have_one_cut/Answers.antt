use Rattle.growth_laws.specs.Pieces.{pieces_of}
use Rattle.executor.proofs.PieceCuts.{pieces_have, pieces_cut}
use Rattle.executor.proofs.laws.pieces_have_one_cut.Goals as goal

pub returns : goal.returns
returns c = λ schemas plan cuts r is typed fits.
    pieces_cut schemas (pieces_of r) (c.pieces_of_typed_rewritings.ensures schemas plan cuts r is typed) (pieces_have r plan cuts is fits)
