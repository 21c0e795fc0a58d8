-- By one run after another.
use Rattle.std.proofs.Common.{◌≡◌, refl, ap, ◌∙◌, ◌+◌, ◌++◌, arith}
use Rattle.workload_gen.specs.Script.{each_below, run_line, run_lines}
use Rattle.workload_gen.proofs.DrawLemmas.{state_after-more, state_after-none}
use Rattle.workload_gen.proofs.LaterLemmas.{run_line-here}
use Rattle.workload_gen.proofs.LoopLemmas.{each_below-first, each_below-next}
use Rattle.workload_gen.proofs.runs.push_runs.Goals as goal

pub loop-run-init : goal.loop-run-init
loop-run-init c =
    record { items = each_below-first (λ k. run_line c.args.generator.now.state (0 + k)) c.args.to.now.items; state = state_after-none c.args.generator.now.state }

pub loop-run-preserved : goal.loop-run-preserved
loop-run-preserved c =
    let state = c.args.generator.now.state in
    let run = c.loop-run._run in
    record {
      items = each_below-next (λ k. run_line state (0 + k)) run _ _ _ _ c.loop-run.invariant.items c.in_ok-push_run.ensures.run
          (run_line-here state run _ c.loop-run.invariant.state);
      state = state_after-more state run 1 (run + 1) _ _ c.loop-run.invariant.state c.in_ok-push_run.ensures.state refl;
    }

pub returns-clause-runs : goal.returns-clause-runs
unfolding run_lines
returns-clause-runs c =
    let all : c.loop-run._run ≡ 3 = omega arith in
    c.loop-run.invariant.items ∙ ap (λ n. c.args.to.now.items ++ each_below n (λ k. run_line c.args.generator.now.state (0 + k))) all
