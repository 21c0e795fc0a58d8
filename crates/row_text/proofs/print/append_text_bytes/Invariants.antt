-- The bytes so far stand behind what was there, and the capacity doesn't fall.
use Rattle.std.proofs.Common.{◌≡◌, ◌++◌, ◌≤◌, take, vec_capacity}
use Rattle.std.specs.List.{flat_map}
use Rattle.row_text.specs.RowSpelling.{byte_spelling}
use Rattle.row_text.proofs.print.append_text_bytes.Given as goal

abbrev pub invariant-loop-byte : goal.invariant-loop-byte
invariant-loop-byte l =
    record { items : l.to.items ≡ l.initial.to.items ++ flat_map byte_spelling (take l.byte-index l.text); capacity : vec_capacity l.initial.to ≤ vec_capacity l.to }
