-- The bytes so far are the spelling of the text so far.
use Rattle.std.proofs.Common.{◌≡◌, ◌++◌, length}
use Rattle.std.specs.List.{flat_map}
use Rattle.row_text.specs.RowSpelling.{byte_spelling}
use Rattle.row_text.proofs.field.text_at.Given as goal

abbrev pub invariant-loop-byte : goal.invariant-loop-byte
invariant-loop-byte l = l.bytes ≡ flat_map byte_spelling l.text.items ++ l.rest

abbrev pub decreases-loop-byte : goal.decreases-loop-byte
decreases-loop-byte l = length l.rest
