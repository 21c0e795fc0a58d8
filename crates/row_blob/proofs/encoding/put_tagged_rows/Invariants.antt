-- The rows so far stand at the end.
use Rattle.std.proofs.Common.{◌≡◌, ◌++◌, take}
use Rattle.std.specs.List.{flat_map}
use Rattle.row_blob.specs.Spelling.{tagged_spelling}
use Rattle.row_blob.proofs.encoding.put_tagged_rows.Given as goal

abbrev pub invariant-loop-row : goal.invariant-loop-row
invariant-loop-row l = l.out.items ≡ l.fn.out.items ++ flat_map tagged_spelling (take l.row-index l.rows)
