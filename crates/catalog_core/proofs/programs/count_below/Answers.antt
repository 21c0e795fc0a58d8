use Rattle.std.proofs.Common.{arith, take}
use Rattle.std.proofs.lemmas.Grind.{common_steps}
use Rattle.catalog_core.proofs.ByName.{place-within}
use Rattle.catalog_core.proofs.programs.count_below.Goals as goal

pub overflow_add-count : goal.overflow_add-count
overflow_add-count c =
    let within = place-within c.args.name.now (take c.loop-program.program-index c.args.programs.now) in
    grind (arith, common_steps, within, c.loop-program.invariant, c.loop-program.auto.program-index-end, c.loop-program-test.true, c.loop-program.auto.count-fits)
