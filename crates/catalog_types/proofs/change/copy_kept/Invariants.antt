-- The items so far.
use Rattle.std.proofs.Common.{◌≡◌, take}
use Rattle.catalog_types.proofs.change.copy_kept.Given as goal

abbrev pub invariant-loop-entry : goal.invariant-loop-entry
invariant-loop-entry l = l.copies.items ≡ take l.entry-index l.kept
