use Rattle.std.proofs.Common.{arith}
use Rattle.estimator.proofs.bytes.Intervals.sides.Goals as goal

pub split_at-requires : goal.split_at-requires
split_at-requires g c = omega (arith, c.leaves_within.ensures, c.len.ensures)
