use Rattle.std.proofs.Common.{arith}
use Rattle.estimator.proofs.Sums.{none_added}
use Rattle.estimator.proofs.bytes.first_added.Goals as goal

pub returns-in_default-new : goal.returns-in_default-new
returns-in_default-new c = none_added c.args.old.now c.args.new.now (omega (arith, c.in_default-new.len_below))
