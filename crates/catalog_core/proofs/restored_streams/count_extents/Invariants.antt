-- The extents of the streams so far, which are streams.
use Rattle.std.proofs.Common.{◌≡◌, ◌≤◌, ◌*◌, take}
use Rattle.std.specs.List.{All}
use Rattle.catalog_core.specs.IsTable.{IsStream}
use Rattle.catalog_core.specs.Streams.{states_of}
use Rattle.catalog_core.specs.Table.{extent_count}
use Rattle.catalog_core.proofs.restored_streams.count_extents.Given as goal

abbrev pub invariant-loop-stream : goal.invariant-loop-stream
invariant-loop-stream l = record {
  counted : l.count ≡ extent_count (states_of (take l.stream-index l.streams));
  small : l.count ≤ l.stream-index * 65535;
  are : All IsStream (states_of (take l.stream-index l.streams));
}
