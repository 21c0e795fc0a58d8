-- What is still read behind the accumulators so far is what all is read as.
use Rattle.std.proofs.Common.{◌≡◌, [], drop}
use Rattle.row_blob.specs.Reading.{each_at, acc_at}
use Rattle.row_blob.proofs.groups.accs_at.Given as goal

abbrev pub invariant-loop-kind : goal.invariant-loop-kind
invariant-loop-kind l = each_at acc_at (drop l.kind-index l.kinds) l.accs.items l.rest ≡ each_at acc_at l.kinds [] l.bytes
