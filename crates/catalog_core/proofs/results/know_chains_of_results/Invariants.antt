-- The streams stay.
use Rattle.std.proofs.Common.{◌≡◌, length}
use Rattle.catalog_core.specs.Streams.{states_of}
use Rattle.catalog_core.proofs.results.know_chains_of_results.Given as goal

abbrev pub invariant-loop-rest : goal.invariant-loop-rest
invariant-loop-rest l = states_of l.streams.items ≡ states_of l.initial.streams.items

abbrev pub decreases-loop-rest : goal.decreases-loop-rest
decreases-loop-rest l = length l.rest
