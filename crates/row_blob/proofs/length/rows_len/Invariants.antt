-- The length of the rows so far.
use Rattle.std.proofs.Common.{◌≡◌, take, length, min}
use Rattle.std.specs.List.{flat_map}
use Rattle.row_blob.specs.Spelling.{row_spelling}
use Rattle.row_blob.proofs.length.rows_len.Given as goal

abbrev pub invariant-loop-row : goal.invariant-loop-row
invariant-loop-row l = l.len ≡ min (length (flat_map row_spelling (take l.row-index l.rows))) 18446744073709551615
