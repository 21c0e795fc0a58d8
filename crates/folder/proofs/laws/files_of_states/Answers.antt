use Rattle.folder.proofs.PieceLemmas.{pieces_are}
use Rattle.folder.proofs.HeldForms.{kept-results, holds-extent, holds-result}
use Rattle.folder.proofs.laws.files_of_states.Goals as goal

pub returns-clause-kept : goal.returns-clause-kept
returns-clause-kept c = λ s left_out valid are. kept-results s left_out valid are

pub returns-clause-pieces : goal.returns-clause-pieces
returns-clause-pieces c = λ s left_out plan cuts r valid is within. pieces_are s valid left_out r plan cuts is within

pub returns-clause-extents : goal.returns-clause-extents
returns-clause-extents c = λ care files s place number sound low. holds-extent c.one_spelling.ensures care files s sound place number low

pub returns-clause-results : goal.returns-clause-results
returns-clause-results c = λ care files s e sound are has. holds-result c.one_spelling.ensures care files s sound e are has
