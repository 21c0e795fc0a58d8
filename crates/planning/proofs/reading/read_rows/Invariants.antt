use Rattle.rows_core.specs.Schema.{kinds_of}
use Rattle.planning.proofs.ReadingLemmas.{ReadSoFar}
use Rattle.planning.proofs.reading.read_rows.Given as goal

abbrev pub invariant-loop-index : goal.invariant-loop-index
invariant-loop-index l = ReadSoFar (kinds_of l.schema) l.lines l.index l.rows.items
