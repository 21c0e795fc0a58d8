-- The bytes before are looked at one after the other.
use Rattle.std.proofs.Common.{length}
use Rattle.record_codec.proofs.order.+may_reach.Given as goal

abbrev pub decreases-may_reach : goal.decreases-may_reach
decreases-may_reach l = length l.previous.now
