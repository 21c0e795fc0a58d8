-- The columns so far were written.
use Rattle.std.proofs.Common.{take}
use Rattle.std.specs.Io.KnownBytes.{Appends}
use Rattle.csv_script.specs.Blocks.{more_text}
use Rattle.csv_script.proofs.declaring.write_more.Given as goal

abbrev pub invariant-loop-column : goal.invariant-loop-column
invariant-loop-column g l = Appends (g.W.Write.contents l.initial.script) (g.W.Write.contents l.script) (more_text (take l.column-index l.columns))
