-- By one row after another.
use Rattle.std.proofs.Common.{◌≡◌, ap, ◌∙◌, ◌+◌, ◌*◌, ◌++◌, arith}
use Rattle.workload_gen.specs.Script.{each_below, row_line, row_lines}
use Rattle.workload_gen.proofs.DrawLemmas.{state_after-more, state_after-none}
use Rattle.workload_gen.proofs.LaterLemmas.{row_line-here}
use Rattle.workload_gen.proofs.LoopLemmas.{each_below-first, each_below-next}
use Rattle.workload_gen.proofs.appends.push_rows.Goals as goal

pub loop-row-init : goal.loop-row-init
loop-row-init c =
    record { items = each_below-first (λ j. row_line c.args.generator.now.state (0 + 2 * j) (c.args.first + j)) c.args.to.now.items; state = state_after-none c.args.generator.now.state }

pub loop-row-preserved : goal.loop-row-preserved
loop-row-preserved c =
    let state = c.args.generator.now.state in
    let row = c.loop-row.row in
    record {
      items = each_below-next (λ j. row_line state (0 + 2 * j) (c.args.first + j)) row _ _ _ _ c.loop-row.invariant.items c.in_ok-push_row.ensures.row
          (row_line-here state (2 * row) (c.args.first + row) _ c.loop-row.invariant.state);
      state = state_after-more state (2 * row) 2 (2 * (row + 1)) _ _ c.loop-row.invariant.state c.in_ok-push_row.ensures.state (omega arith);
    }

pub returns-clause-rows : goal.returns-clause-rows
unfolding row_lines
returns-clause-rows c =
    let all : c.loop-row.row ≡ 500 = omega arith in
    c.loop-row.invariant.items
    ∙ ap (λ n. c.args.to.now.items ++ each_below n (λ j. row_line c.args.generator.now.state (0 + 2 * j) (c.args.first + j))) all
