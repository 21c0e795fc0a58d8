-- The values so far stand behind what was there, and the capacity doesn't fall.
use Rattle.std.proofs.Common.{◌≡◌, ◌++◌, ◌≤◌, take, vec_capacity}
use Rattle.row_text.specs.RowSpelling.{more_spelling}
use Rattle.row_text.proofs.print.append_more.Given as goal

abbrev pub invariant-loop-value : goal.invariant-loop-value
invariant-loop-value l =
    record { items : l.to.items ≡ l.initial.to.items ++ more_spelling (take l.value-index l.values); capacity : vec_capacity l.initial.to ≤ vec_capacity l.to }
