-- One byte less at each call.
use Rattle.std.proofs.Common.{length}
use Rattle.byte_formats.proofs.literal.+after_literal.Given as goal

abbrev pub decreases-after_literal : goal.decreases-after_literal
decreases-after_literal l = length l.expected.now
