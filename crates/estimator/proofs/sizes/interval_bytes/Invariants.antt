use Rattle.std.proofs.Common.{◌≡◌, sum, slice_range}
use Rattle.estimator.specs.Bytes.{lengths_at}
use Rattle.estimator.specs.Bytes.{capped}
use Rattle.estimator.proofs.sizes.interval_bytes.Given as goal

abbrev pub invariant-loop-number : goal.invariant-loop-number
invariant-loop-number g l = l.bytes ≡ capped (sum (slice_range (lengths_at (g.Z.Sizes.lengths l.sizes) l.stream) l.fn.cut.from l.number))
