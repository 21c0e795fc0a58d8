-- The length of the accumulators so far.
use Rattle.std.proofs.Common.{◌≡◌, take, length, min}
use Rattle.std.specs.List.{flat_map}
use Rattle.row_blob.specs.Spelling.{acc_spelling}
use Rattle.row_blob.proofs.length.accs_len.Given as goal

abbrev pub invariant-loop-acc : goal.invariant-loop-acc
invariant-loop-acc l = l.len ≡ min (length (flat_map acc_spelling (take l.acc-index l.accs))) 18446744073709551615
