-- The chains so far and those of the extents that are left are the chains of all, for which there is room.
use Rattle.std.proofs.Common.{◌≡◌, ◌+◌, ◌≤◌, ◌++◌, length, vec_capacity}
use Rattle.catalog_core.specs.Chains.{chains_after}
use Rattle.catalog_core.specs.Results.{extent_digests}
use Rattle.catalog_core.proofs.stream.push_chains.Given as goal

abbrev pub invariant-loop-rest : goal.invariant-loop-rest
invariant-loop-rest l = record {
  chained : l.initial.chains.items ++ chains_after l.fn.before (extent_digests l.extents) ≡ l.chains.items ++ chains_after l.last (extent_digests l.rest);
  room : length l.chains.items + length l.rest ≤ vec_capacity l.chains;
}

abbrev pub decreases-loop-rest : goal.decreases-loop-rest
decreases-loop-rest l = length l.rest
