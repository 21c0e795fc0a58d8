use Rattle.planning.proofs.Collections.{one-at-least, one-at-most, bytes-taken}
use Rattle.planning.proofs.collection_laws.one_collection.Goals as goal

pub returns : goal.returns
returns c = record { some = one-at-least; one = one-at-most; bytes = bytes-taken }
