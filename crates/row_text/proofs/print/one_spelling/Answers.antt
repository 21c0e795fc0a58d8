-- By what stands up to the first comma, and so on.
use Rattle.row_text.proofs.Lines.{row_spelling-injective}
use Rattle.row_text.proofs.print.one_spelling.Goals as goal

pub returns : goal.returns
returns c = row_spelling-injective
