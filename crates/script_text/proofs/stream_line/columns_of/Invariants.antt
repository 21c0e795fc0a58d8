-- The columns so far, and those of the rest.
use Rattle.std.proofs.Common.{◌≡◌, length}
use Rattle.script_text.specs.StreamLine.{columns_of}
use Rattle.script_text.proofs.StreamLemmas.{columns_behind}
use Rattle.script_text.proofs.stream_line.columns_of.Given as goal

abbrev pub invariant-loop-part : goal.invariant-loop-part
invariant-loop-part l = columns_of l.text ≡ columns_behind l.columns.items (columns_of l.rest)

abbrev pub decreases-loop-part : goal.decreases-loop-part
decreases-loop-part l = length l.rest
