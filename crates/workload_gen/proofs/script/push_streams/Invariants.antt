-- The streams so far stand behind what was there.
use Rattle.std.proofs.Common.{◌≡◌, ◌++◌}
use Rattle.workload_gen.specs.Script.{each_below, stream_line}
use Rattle.workload_gen.proofs.script.push_streams.Given as goal

abbrev pub invariant-loop-stream : goal.invariant-loop-stream
invariant-loop-stream l = l.to.items ≡ l.initial.to.items ++ each_below l.stream stream_line
