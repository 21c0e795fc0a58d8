-- The count, and the items so far.
use Rattle.std.proofs.Common.{◌≡◌, ◌++◌, take}
use Rattle.std.specs.List.{flat_map}
use Rattle.record_codec.specs.Spelling.{stream_spelling}
use Rattle.record_codec.proofs.spelling.put_streams.Given as goal

abbrev pub invariant-loop-stream : goal.invariant-loop-stream
invariant-loop-stream l = l.out.items ≡ l.initial.out.items ++ flat_map stream_spelling (take l.stream-index l.streams)
