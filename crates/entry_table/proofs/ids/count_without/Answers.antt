use Rattle.std.proofs.Common.{arith, take, length, ap}
use Rattle.std.proofs.lemmas.Grind.{common_steps}
use Rattle.entry_table.proofs.Lists.{without-within, without-none}
use Rattle.entry_table.proofs.ids.count_without.Goals as goal

pub returns-then-is_empty : goal.returns-then-is_empty
returns-then-is_empty c =
    ap length (without-none c.args.ids.now c.args.entries.now c.is_empty.result c.is_empty.ensures c.if-is_empty.true)

pub overflow_add-count : goal.overflow_add-count
overflow_add-count c =
    let within = without-within c.args.ids.now (take c.loop-entry.entry-index c.args.entries.now) in
    grind (arith, common_steps, within, c.loop-entry.invariant, c.loop-entry.auto.entry-index-end, c.loop-entry-test.true, c.loop-entry.auto.count-fits)
