-- A block is written only where it has a row.
use Rattle.std.proofs.Common.{◌<◌, length, arith}
use Rattle.csv_script.proofs.Written.{IsBlocked-written}
use Rattle.csv_script.proofs.blocks.make_room.Goals as goal

pub returns-clause-blocked : goal.returns-clause-blocked
returns-clause-blocked g c small kinds before rows is =
    let some : 0 < length c.args.lines.now.items = omega arith in
    rw c.clear.ensures.items (IsBlocked-written kinds c.args.name.now before _ _ c.args.lines.now.items rows is some (rw c.as_slice.ensures.value at c.in_ok-write_block.ensures))
