-- From the chain so far over the extents that are left it is the chain from the first over all.
use Rattle.std.proofs.Common.{◌≡◌, length}
use Rattle.fingerprints.specs.Keys.{chain_of}
use Rattle.catalog_core.specs.Results.{extent_digests}
use Rattle.catalog_core.proofs.stream.chain_over.Given as goal

abbrev pub invariant-loop-rest : goal.invariant-loop-rest
invariant-loop-rest l = chain_of l.fn.before (extent_digests l.extents) ≡ chain_of l.last (extent_digests l.rest)

abbrev pub decreases-loop-rest : goal.decreases-loop-rest
decreases-loop-rest l = length l.rest
