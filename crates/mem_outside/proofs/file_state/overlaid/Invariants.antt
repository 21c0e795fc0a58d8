-- The front, and the gap so far.
use Rattle.std.proofs.Common.{◌≡◌, ◌++◌, ◌-◌, ◌≤◌, take, length, replicate, vec_len}
use Rattle.mem_outside.proofs.file_state.overlaid.Given as goal

abbrev pub invariant-loop-out : goal.invariant-loop-out
invariant-loop-out l = record { is : l.out.items ≡ take l.at l.old ++ replicate (length l.out.items - length l.old) 0; within : length l.out.items ≤ l.at }

abbrev pub decreases-loop-out : goal.decreases-loop-out
decreases-loop-out l = l.at - vec_len l.out
