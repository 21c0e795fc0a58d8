-- By the draws of the append line and of the rows.
use Rattle.std.proofs.Common.{refl, ◌*◌, arith}
use Rattle.std.proofs.lemmas.Grind.{common_steps}
use Rattle.workload_gen.specs.Script.{append_block}
use Rattle.workload_gen.proofs.DrawLemmas.{state_after-more}
use Rattle.workload_gen.proofs.LaterLemmas.{row_lines-here}
use Rattle.workload_gen.proofs.appends.push_append.Goals as goal

pub returns-clause-block : goal.returns-clause-block
unfolding append_block
returns-clause-block c =
    let rows = row_lines-here c.args.generator.now.state 1 (c.args.a * 500) _ c.in_ok-push_append_line.ensures.state in
    grind (arith, common_steps, rows)

pub returns-clause-state : goal.returns-clause-state
returns-clause-state c =
    state_after-more c.args.generator.now.state 1 1000 1001 _ _ c.in_ok-push_append_line.ensures.state c.in_ok-push_rows.ensures.state refl
