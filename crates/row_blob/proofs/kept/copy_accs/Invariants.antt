-- The copies so far are the accumulators so far.
use Rattle.std.proofs.Common.{◌≡◌, take}
use Rattle.row_blob.proofs.kept.copy_accs.Given as goal

abbrev pub invariant-loop-acc : goal.invariant-loop-acc
invariant-loop-acc l = l.copies.items ≡ take l.acc-index l.accs
