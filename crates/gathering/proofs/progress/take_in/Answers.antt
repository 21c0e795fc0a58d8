use Rattle.std.proofs.Common.{subst}
use Rattle.plan_core.specs.PlainPlan.{plan_of}
use Rattle.gathering.specs.Holding.{IsSound}
use Rattle.gathering.proofs.Sums.{held_mergeable}
use Rattle.gathering.proofs.progress.take_in.Goals as goal

pub take-requires-clause-mergeable : goal.take-requires-clause-mergeable
take-requires-clause-mergeable c =
    let sound = subst (IsSound (plan_of c.args.plan.now)) c.in-Ok.is c.requires.sound in
    held_mergeable (plan_of c.args.plan.now) c.in-Ok.state.held c.in-Ok.state.taken_in sound.1 sound.2
