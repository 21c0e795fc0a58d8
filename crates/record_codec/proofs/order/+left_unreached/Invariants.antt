-- The bytes before are looked at one after the other.
use Rattle.std.proofs.Common.{length}
use Rattle.record_codec.proofs.order.+left_unreached.Given as goal

abbrev pub decreases-left_unreached : goal.decreases-left_unreached
decreases-left_unreached l = length l.previous.now
