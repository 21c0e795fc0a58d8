-- The items so far.
use Rattle.std.proofs.Common.{◌≡◌, take}
use Rattle.catalog_core.proofs.schemas.copy_each.Given as goal

abbrev pub invariant-loop-kinds : goal.invariant-loop-kinds
invariant-loop-kinds l = l.copies.items ≡ take l.kinds-index l.lists
