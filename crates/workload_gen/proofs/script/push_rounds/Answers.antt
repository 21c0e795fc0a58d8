-- By one round after another.
use Rattle.std.proofs.Common.{◌+◌, ◌-◌, arith}
use Rattle.workload_gen.specs.Script.{round, round_start}
use Rattle.workload_gen.proofs.DrawLemmas.{state_after-more, state_after-none}
use Rattle.workload_gen.proofs.LaterLemmas.{round-here}
use Rattle.workload_gen.proofs.LoopLemmas.{each_below-first, each_below-next}
use Rattle.workload_gen.proofs.script.push_rounds.Goals as goal

pub loop-a-init : goal.loop-a-init
loop-a-init c =
    record { items = each_below-first (λ k. round c.args.generator.now.state (round_start k) k) c.args.to.now.items; state = state_after-none c.args.generator.now.state }

pub loop-a-preserved : goal.loop-a-preserved
loop-a-preserved c =
    let state = c.args.generator.now.state in
    let a = c.loop-a.a in
    record {
      items = each_below-next (λ k. round state (round_start k) k) a _ _ _ _ c.loop-a.invariant.items c.in_ok-push_round.ensures.round
          (round-here state (round_start a) a _ c.loop-a.invariant.state);
      state = state_after-more state (round_start a) (round_start (a + 1) - round_start a) (round_start (a + 1)) _ _ c.loop-a.invariant.state c.in_ok-push_round.ensures.state (omega arith);
    }
