use Rattle.std.proofs.Common.{◌-◌, ◌<◌, List, length, take, drop, length-drop, arith}
use Rattle.std.proofs.lemmas.List.{length-take}
use Rattle.executor.specs.declared.part.Part.{Part}
use Rattle.executor.specs.Progress.{files_left}
use Rattle.executor.proofs.Updates.{is_within}
use Rattle.executor.proofs.reading.+next_of.Goals as goal

pub overflow_add-result : goal.overflow_add-result
overflow_add-result t c =
    let rest : List Part = take (length c.args.parts.now - 1) (drop 1 c.args.parts.now) in
    let within : c.next_of.result < length rest = is_within files_left rest c.next_of.result c.next_of.ensures in
    let short = length-take (length c.args.parts.now - 1) (drop 1 c.args.parts.now) in omega (arith, length-drop 1 c.args.parts.now)
