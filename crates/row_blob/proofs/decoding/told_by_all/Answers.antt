-- Each key and each position ends within the spelling.
use Rattle.row_blob.proofs.PlaceLaws.{kept_to_all}
use Rattle.row_blob.proofs.decoding.told_by_all.Goals as goal

pub returns : goal.returns
returns c = kept_to_all
