use Rattle.std.proofs.Common.{◌≤◌, ◌<◌, length, arith}
use Rattle.estimator.specs.Bytes.{lengths_at}
use Rattle.estimator.proofs.Sums.{sum_range_more}
use Rattle.estimator.proofs.sizes.interval_bytes.Goals as goal

pub loop-number-preserved : goal.loop-number-preserved
loop-number-preserved g c =
    let from : c.args.cut.from ≤ c.loop-number.number = omega arith in
    let below : c.loop-number.number < length (lengths_at (g.Z.Sizes.lengths c.args.sizes.now) c.args.stream) = omega arith in
    let e = sum_range_more (lengths_at (g.Z.Sizes.lengths c.args.sizes.now) c.args.stream) c.args.cut.from c.loop-number.number from below in
    rw e (omega arith)
