-- The copies so far are the groups so far.
use Rattle.std.proofs.Common.{◌≡◌, take}
use Rattle.row_blob.proofs.kept.copy_groups.Given as goal

abbrev pub invariant-loop-group : goal.invariant-loop-group
invariant-loop-group l = l.copies.items ≡ take l.group-index l.groups
