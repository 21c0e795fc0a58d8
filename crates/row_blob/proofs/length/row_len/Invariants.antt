-- The length of the values so far.
use Rattle.std.proofs.Common.{◌≡◌, take, length, min}
use Rattle.std.specs.List.{flat_map}
use Rattle.row_blob.specs.Spelling.{value_spelling}
use Rattle.row_blob.proofs.length.row_len.Given as goal

abbrev pub invariant-loop-value : goal.invariant-loop-value
invariant-loop-value l = l.len ≡ min (length (flat_map value_spelling (take l.value-index l.value-items))) 18446744073709551615
