use Rattle.std.proofs.Common.{◌≡◌, take}
use Rattle.mem_outside.specs.Outcomes.{freed}
use Rattle.mem_outside.proofs.file_state.freed.Given as goal

abbrev pub invariant-loop-i : goal.invariant-loop-i
invariant-loop-i l = l.out.items ≡ freed l.at l.len (take l.i l.fixed)
