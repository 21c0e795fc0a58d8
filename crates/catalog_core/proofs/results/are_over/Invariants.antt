-- The results that are left are over the streams, with plans that have spellings, where all are.
use Rattle.std.proofs.Common.{◌↔◌, length}
use Rattle.std.specs.List.{AllByRecursion}
use Rattle.plan_spelling.specs.Spelling.{HasPlanSpelling}
use Rattle.catalog_core.specs.Results.{IsResultOver}
use Rattle.catalog_core.specs.Streams.{states_of}
use Rattle.catalog_core.proofs.results.are_over.Given as goal

abbrev pub invariant-loop-rest : goal.invariant-loop-rest
invariant-loop-rest l = record {
  over : AllByRecursion (IsResultOver (states_of l.streams)) l.kept ↔ AllByRecursion (IsResultOver (states_of l.streams)) l.rest;
  spelled : AllByRecursion (λ new. HasPlanSpelling new.plan) l.rest → AllByRecursion (λ new. HasPlanSpelling new.plan) l.kept;
}

abbrev pub decreases-loop-rest : goal.decreases-loop-rest
decreases-loop-rest l = length l.rest
