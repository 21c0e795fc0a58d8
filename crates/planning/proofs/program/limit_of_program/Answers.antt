use Rattle.std.proofs.Common.{ap, length, arith}
use Rattle.std.proofs.lemmas.Grind.{common_steps}
use Rattle.planning.proofs.Stored.{few_on_each_side}
use Rattle.planning.proofs.program.limit_of_program.Goals as goal

pub overflow_add-count_below : goal.overflow_add-count_below
overflow_add-count_below c =
    let few = few_on_each_side c.programs-programs.result.now c.args.program.now.name in
    let all = ap length c.programs-programs.ensures in
    let most = c.know_table.ensures.few_programs in
    grind (arith, common_steps, few, all, most, c.count_below.ensures, c.count_above.ensures)
