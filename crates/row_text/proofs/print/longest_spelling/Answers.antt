-- By the length of each value's spelling.
use Rattle.row_text.proofs.Lines.{row_spelling-length}
use Rattle.row_text.proofs.print.longest_spelling.Goals as goal

pub returns : goal.returns
returns c = row_spelling-length
