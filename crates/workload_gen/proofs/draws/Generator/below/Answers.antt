-- By what one step does.
use Rattle.workload_gen.proofs.DrawLemmas.{state_after-one, draw-one}
use Rattle.workload_gen.proofs.draws.Generator.below.Goals as goal

pub returns-clause-drawn : goal.returns-clause-drawn
returns-clause-drawn c = draw-one c.args.self.now.state c.args.bound

pub returns-clause-state : goal.returns-clause-state
returns-clause-state c = state_after-one c.args.self.now.state
