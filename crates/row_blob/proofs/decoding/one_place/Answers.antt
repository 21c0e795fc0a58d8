-- Of two places the lesser has no spelling with its byte, and the other says that there is one.
use Rattle.row_blob.proofs.PlaceLaws.{same_place}
use Rattle.row_blob.proofs.decoding.one_place.Goals as goal

pub returns : goal.returns
returns c = same_place
