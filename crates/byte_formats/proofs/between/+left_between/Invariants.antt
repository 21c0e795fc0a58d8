-- One byte less at each call.
use Rattle.std.proofs.Common.{length}
use Rattle.byte_formats.proofs.between.+left_between.Given as goal

abbrev pub decreases-left_between : goal.decreases-left_between
decreases-left_between l = length l.bytes.now
