-- The streams of the states so far, which are streams.
use Rattle.std.proofs.Common.{◌≡◌, ◌++◌, length}
use Rattle.std.specs.Vec.Iter.{into_iter_items, into_iter_len}
use Rattle.catalog_core.specs.Streams.{states_of}
use Rattle.catalog_core.proofs.restored_streams.restored_each.Given as goal

abbrev pub invariant-loop-state : goal.invariant-loop-state
invariant-loop-state l = record {
  given : l.yielded ++ into_iter_items l.state-iterator ≡ into_iter_items l.initial.state-iterator;
  restored : states_of l.streams.items ≡ l.yielded;
  left : into_iter_len l.state-iterator ≡ length (into_iter_items l.state-iterator);
}
