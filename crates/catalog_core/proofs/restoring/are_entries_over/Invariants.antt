-- The entries that are left are over the streams, with plans that have spellings, where all are.
use Rattle.std.proofs.Common.{◌↔◌, length}
use Rattle.std.specs.List.{AllByRecursion}
use Rattle.plan_spelling.specs.Spelling.{HasPlanSpelling}
use Rattle.catalog_core.specs.Results.{IsEntryOver}
use Rattle.catalog_core.specs.Streams.{states_of}
use Rattle.catalog_core.proofs.restoring.are_entries_over.Given as goal

abbrev pub invariant-loop-rest : goal.invariant-loop-rest
invariant-loop-rest l = record {
  over : AllByRecursion (IsEntryOver (states_of l.streams)) l.entries ↔ AllByRecursion (IsEntryOver (states_of l.streams)) l.rest;
  spelled : AllByRecursion (λ e. HasPlanSpelling e.plan) l.rest → AllByRecursion (λ e. HasPlanSpelling e.plan) l.entries;
}

abbrev pub decreases-loop-rest : goal.decreases-loop-rest
decreases-loop-rest l = length l.rest
