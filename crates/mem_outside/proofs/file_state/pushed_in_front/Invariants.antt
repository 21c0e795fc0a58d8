use Rattle.std.proofs.Common.{◌≡◌, ◌∷◌, take}
use Rattle.mem_outside.proofs.file_state.pushed_in_front.Given as goal

abbrev pub invariant-loop-before : goal.invariant-loop-before
invariant-loop-before l = l.all.items ≡ l.fn.loose ∷ take l.before-index l.gone
