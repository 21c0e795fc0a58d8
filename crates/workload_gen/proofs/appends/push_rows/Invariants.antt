-- The rows so far stand behind what was there, and two draws were taken for each.
use Rattle.std.proofs.Common.{◌≡◌, ◌+◌, ◌*◌, ◌++◌}
use Rattle.workload_gen.specs.Draws.{state_after}
use Rattle.workload_gen.specs.Script.{each_below, row_line}
use Rattle.workload_gen.proofs.appends.push_rows.Given as goal

abbrev pub invariant-loop-row : goal.invariant-loop-row
invariant-loop-row l =
    record { items : l.to.items ≡ l.initial.to.items ++ each_below l.row (λ j. row_line l.initial.generator.state (0 + 2 * j) (l.first + j)); state : l.generator.state ≡ state_after l.initial.generator.state (2 * l.row) }
