-- By one stream after another.
use Rattle.std.proofs.Common.{refl}
use Rattle.workload_gen.specs.Script.{stream_line}
use Rattle.workload_gen.proofs.LoopLemmas.{each_below-first, each_below-next}
use Rattle.workload_gen.proofs.script.push_streams.Goals as goal

pub loop-stream-init : goal.loop-stream-init
loop-stream-init c = each_below-first stream_line c.args.to.now.items

pub loop-stream-preserved : goal.loop-stream-preserved
loop-stream-preserved c = each_below-next stream_line c.loop-stream.stream _ _ _ _ c.loop-stream.invariant c.in_ok-push_stream.ensures refl
