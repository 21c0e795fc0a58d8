use Rattle.std.proofs.Common.{take}
use Rattle.rows_core.specs.Schema.{kinds_of}
use Rattle.planning.specs.Rows.{SpellLong}
use Rattle.planning.proofs.reading.after_long.Given as goal

abbrev pub invariant-loop-index : goal.invariant-loop-index
invariant-loop-index l = SpellLong (kinds_of l.schema) (take l.index l.lines)
