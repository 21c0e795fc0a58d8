-- One byte less at each call.
use Rattle.std.proofs.Common.{length}
use Rattle.byte_formats.proofs.text.+left_in_text.Given as goal

abbrev pub decreases-left_in_text : goal.decreases-left_in_text
decreases-left_in_text l = length l.bytes.now
