-- The runs so far stand behind what was there, and a draw was taken for each.
use Rattle.std.proofs.Common.{◌≡◌, ◌+◌, ◌++◌}
use Rattle.workload_gen.specs.Draws.{state_after}
use Rattle.workload_gen.specs.Script.{each_below, run_line}
use Rattle.workload_gen.proofs.runs.push_runs.Given as goal

abbrev pub invariant-loop-run : goal.invariant-loop-run
invariant-loop-run l =
    record { items : l.to.items ≡ l.initial.to.items ++ each_below l._run (λ k. run_line l.initial.generator.state (0 + k)); state : l.generator.state ≡ state_after l.initial.generator.state l._run }
