-- The length of the rows so far.
use Rattle.std.proofs.Common.{◌≡◌, take, length, min}
use Rattle.std.specs.List.{flat_map}
use Rattle.row_blob.specs.Spelling.{tagged_spelling}
use Rattle.row_blob.proofs.length.tagged_rows_len.Given as goal

abbrev pub invariant-loop-tagged : goal.invariant-loop-tagged
invariant-loop-tagged l = l.len ≡ min (length (flat_map tagged_spelling (take l.tagged-index l.rows))) 18446744073709551615
