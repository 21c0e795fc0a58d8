use Rattle.std.proofs.Common.{◌-◌, length}
use Rattle.script_text.proofs.TakeLemmas.{TakesSoFar}
use Rattle.script_text.proofs.lines.Lines.take.Given as goal

abbrev pub invariant-loop-taken : goal.invariant-loop-taken
invariant-loop-taken l = TakesSoFar l.fn.self l.self l.bytes l.taken

abbrev pub decreases-loop-taken : goal.decreases-loop-taken
decreases-loop-taken l = length l.bytes - l.taken
