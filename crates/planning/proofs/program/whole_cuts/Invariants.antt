-- The cuts of the leaves so far.
use Rattle.std.proofs.Common.{◌≡◌, map, take}
use Rattle.catalog_core.specs.Streams.{states_of}
use Rattle.planning.specs.Running.{whole_cut}
use Rattle.planning.proofs.program.whole_cuts.Given as goal

abbrev pub invariant-loop-leaf : goal.invariant-loop-leaf
invariant-loop-leaf l = l.cuts.items ≡ map (whole_cut (states_of l.streams)) (take l.leaf-index l.leaves)
