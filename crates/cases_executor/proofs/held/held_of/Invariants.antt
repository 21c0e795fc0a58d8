-- The files that are left are there, and the parts are those of some pieces.
use Rattle.std.proofs.Common.{List, length}
use Rattle.std.specs.List.{AllByRecursion}
use Rattle.growth_laws.specs.Pieces.{Piece}
use Rattle.executor.specs.Progress.{left_in, ArePartsOf}
use Rattle.cases_executor.specs.Filed.{HasFile}
use Rattle.cases_executor.proofs.held.held_of.Given as goal

abbrev pub invariant-loop-alloc : goal.invariant-loop-alloc
invariant-loop-alloc l = record {
  there : AllByRecursion (HasFile l.shelf.extents l.shelf.kept.items) (left_in l.job.parts.items);
  parts : (pieces : List Piece) × ArePartsOf l.shelf.schemas.kinds pieces l.job.parts.items;
}

abbrev pub decreases-loop-alloc : goal.decreases-loop-alloc
decreases-loop-alloc l = length (left_in l.job.parts.items)
