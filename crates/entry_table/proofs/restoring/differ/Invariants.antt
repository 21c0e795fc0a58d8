-- The entries that are left are fresh beside those that were seen where all are.
use Rattle.std.proofs.Common.{◌≡◌, [], length}
use Rattle.std.specs.List.{AllByRecursion}
use Rattle.plan_spelling.specs.Spelling.{HasPlanSpelling}
use Rattle.entry_table.specs.Restoring.{are_fresh}
use Rattle.entry_table.proofs.restoring.differ.Given as goal

abbrev pub invariant-loop-rest : goal.invariant-loop-rest
invariant-loop-rest l = record {
  spelled : AllByRecursion (λ e. HasPlanSpelling e.plan) l.rest;
  fresh : are_fresh [] l.entries ≡ are_fresh l.seen.keys l.rest;
}

abbrev pub decreases-loop-rest : goal.decreases-loop-rest
decreases-loop-rest l = length l.rest
