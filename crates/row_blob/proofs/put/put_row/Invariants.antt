-- The values so far stand at the end.
use Rattle.std.proofs.Common.{◌≡◌, ◌++◌, take}
use Rattle.std.specs.List.{flat_map}
use Rattle.row_blob.specs.Spelling.{value_spelling}
use Rattle.row_blob.proofs.put.put_row.Given as goal

abbrev pub invariant-loop-value : goal.invariant-loop-value
invariant-loop-value l = l.out.items ≡ l.fn.out.items ++ flat_map value_spelling (take l.value-index l.value-items)
