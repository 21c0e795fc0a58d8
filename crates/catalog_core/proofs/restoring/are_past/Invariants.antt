-- The entries that are left are past where all are.
use Rattle.std.proofs.Common.{◌↔◌, length}
use Rattle.std.specs.List.{AllByRecursion}
use Rattle.entry_table.specs.AreKept.{IsPast}
use Rattle.catalog_core.proofs.restoring.are_past.Given as goal

abbrev pub invariant-loop-rest : goal.invariant-loop-rest
invariant-loop-rest l = AllByRecursion (IsPast l.tick) l.entries ↔ AllByRecursion (IsPast l.tick) l.rest

abbrev pub decreases-loop-rest : goal.decreases-loop-rest
decreases-loop-rest l = length l.rest
