-- The bytes so far stand behind what was there.
use Rattle.std.proofs.Common.{◌≡◌, ◌++◌, take}
use Rattle.std.specs.List.{flat_map}
use Rattle.row_text.specs.RowSpelling.{byte_spelling}
use Rattle.csv_script.proofs.cell.escape.Given as goal

abbrev pub invariant-loop-byte : goal.invariant-loop-byte
invariant-loop-byte l = l.line.items ≡ l.initial.line.items ++ flat_map byte_spelling (take l.byte-index l.text)
