-- The length of the groups so far.
use Rattle.std.proofs.Common.{◌≡◌, take, length, min}
use Rattle.std.specs.List.{flat_map}
use Rattle.row_blob.specs.Spelling.{group_spelling}
use Rattle.row_blob.proofs.length.groups_len.Given as goal

abbrev pub invariant-loop-group : goal.invariant-loop-group
invariant-loop-group l = l.len ≡ min (length (flat_map group_spelling (take l.group-index l.groups))) 18446744073709551615
