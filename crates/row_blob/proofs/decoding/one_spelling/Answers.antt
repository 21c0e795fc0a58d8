-- What is spelled so is read as what it spells.
use Rattle.row_blob.proofs.KeptLaws.{same_kept}
use Rattle.row_blob.proofs.decoding.one_spelling.Goals as goal

pub returns : goal.returns
returns c = same_kept
