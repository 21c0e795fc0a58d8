-- Without runs no draw is taken.
use Rattle.std.proofs.Common.{◌≡◌, ◌∙◌, ap, ◌%◌, ◌==◌, cond, arith, sym}
use Rattle.std.proofs.lemmas.Bool.Decides.{nat_tests}
use Rattle.workload_gen.specs.Draws.{state_after}
use Rattle.workload_gen.proofs.DrawLemmas.{state_after-none}
use Rattle.workload_gen.proofs.script.push_runs_behind.Goals as goal

pub returns-else-a-eq9-clause-state : goal.returns-else-a-eq9-clause-state
returns-else-a-eq9-clause-state c =
    let none : cond (c.args.a % 10 == 9) 3 0 ≡ 0 = grind (arith, nat_tests) in
    state_after-none c.args.generator.now.state ∙ ap (state_after c.args.generator.now.state) (sym none)
