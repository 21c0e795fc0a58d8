-- By the two draws.
use Rattle.std.proofs.Common.{◌∙◌, arith, refl}
use Rattle.std.proofs.lemmas.Grind.{common_steps}
use Rattle.workload_gen.specs.Script.{row_line}
use Rattle.workload_gen.proofs.DrawLemmas.{draw-here, state_after-more}
use Rattle.workload_gen.proofs.appends.push_row.Goals as goal

pub returns-clause-row : goal.returns-clause-row
unfolding row_line
returns-clause-row c =
    let drawn = c.below-drawn.ensures.drawn ∙ draw-here c.args.generator.now.state 1 1000 _ c.below-tag.ensures.state in
    grind (arith, common_steps, drawn)

pub returns-clause-state : goal.returns-clause-state
returns-clause-state c = state_after-more c.args.generator.now.state 1 1 2 _ _ c.below-tag.ensures.state c.below-drawn.ensures.state refl
