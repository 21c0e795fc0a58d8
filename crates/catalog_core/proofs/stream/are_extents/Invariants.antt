-- The extents so far are extents.
use Rattle.std.proofs.Common.{take}
use Rattle.std.specs.List.{All}
use Rattle.catalog_core.specs.IsTable.{IsExtent}
use Rattle.catalog_core.proofs.stream.are_extents.Given as goal

abbrev pub invariant-loop-extent : goal.invariant-loop-extent
invariant-loop-extent l = All IsExtent (take l.extent-index l.extents)
