-- The rounds so far stand behind what was there, and their draws were taken.
use Rattle.std.proofs.Common.{◌≡◌, ◌++◌}
use Rattle.workload_gen.specs.Draws.{state_after}
use Rattle.workload_gen.specs.Script.{each_below, round, round_start}
use Rattle.workload_gen.proofs.script.push_rounds.Given as goal

abbrev pub invariant-loop-a : goal.invariant-loop-a
invariant-loop-a l =
    record { items : l.to.items ≡ l.initial.to.items ++ each_below l.a (λ k. round l.initial.generator.state (round_start k) k); state : l.generator.state ≡ state_after l.initial.generator.state (round_start l.a) }
