-- The accumulators so far stand at the end.
use Rattle.std.proofs.Common.{◌≡◌, ◌++◌, take}
use Rattle.std.specs.List.{flat_map}
use Rattle.row_blob.specs.Spelling.{acc_spelling}
use Rattle.row_blob.proofs.put.put_accs.Given as goal

abbrev pub invariant-loop-acc : goal.invariant-loop-acc
invariant-loop-acc l = l.out.items ≡ l.fn.out.items ++ flat_map acc_spelling (take l.acc-index l.accs)
