-- The names of the streams so far, which differ.
use Rattle.std.proofs.Common.{◌≡◌, false, map, take}
use Rattle.plan_binder.specs.Binding.{has_repeat}
use Rattle.catalog_core.specs.Streams.{name_of}
use Rattle.catalog_core.proofs.restored_streams.index_of_names.Given as goal

abbrev pub invariant-loop-stream : goal.invariant-loop-stream
invariant-loop-stream l = record {
  named : l.names.keys ≡ map name_of (take l.stream-index l.streams);
  differ : has_repeat (map name_of (take l.stream-index l.streams)) ≡ false;
}
