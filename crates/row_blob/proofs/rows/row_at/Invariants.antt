-- What is still read behind the values so far is what all is read as.
use Rattle.std.proofs.Common.{◌≡◌, [], drop}
use Rattle.row_blob.specs.Reading.{each_at, value_at}
use Rattle.row_blob.proofs.rows.row_at.Given as goal

abbrev pub invariant-loop-kind : goal.invariant-loop-kind
invariant-loop-kind l = each_at value_at (drop l.kind-index l.kinds) l.values.items l.rest ≡ each_at value_at l.kinds [] l.bytes
