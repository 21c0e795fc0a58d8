-- By the parts of the round, and the draws that they use.
use Rattle.std.proofs.Common.{◌≡◌, ◌+◌, ◌-◌, ◌%◌, ◌==◌, cond, arith}
use Rattle.std.proofs.lemmas.Grind.{common_steps}
use Rattle.std.proofs.lemmas.Bool.Decides.{nat_tests}
use Rattle.workload_gen.specs.Script.{round, round_start}
use Rattle.workload_gen.proofs.DrawLemmas.{state_after-more}
use Rattle.workload_gen.proofs.LaterLemmas.{runs_behind-here}
use Rattle.workload_gen.proofs.script.push_round.Goals as goal

pub returns-clause-round : goal.returns-clause-round
unfolding round
returns-clause-round c =
    let runs = runs_behind-here c.args.generator.now.state 1001 c.args.a _ c.in_ok-push_append.ensures.state in
    grind (arith, common_steps, runs)

pub returns-clause-state : goal.returns-clause-state
returns-clause-state c =
    let used : 1001 + cond (c.args.a % 10 == 9) 3 0 ≡ round_start (c.args.a + 1) - round_start c.args.a = grind (arith, nat_tests) in
    grind (arith, common_steps, state_after-more c.args.generator.now.state 1001 _ _ _ _ c.in_ok-push_append.ensures.state c.in_ok-push_runs_behind.ensures.state used)
