-- The count is that of the programs passed.
use Rattle.std.proofs.Common.{◌≡◌, length, take}
use Rattle.catalog_core.specs.Programs.{below}
use Rattle.catalog_core.proofs.programs.count_below.Given as goal

abbrev pub invariant-loop-program : goal.invariant-loop-program
invariant-loop-program l = l.count ≡ length (below l.name (take l.program-index l.programs))
