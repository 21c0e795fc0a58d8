-- The line was taken.
use Rattle.std.proofs.Common.{◌≡◌, ◌≤◌, ◌++◌, true, length, arith, rules, length-append}
use Rattle.std.specs.Result.{is_ok}
use Rattle.csv_script.specs.Blocks.{most_block_bytes}
use Rattle.csv_script.proofs.Written.{IsBlocked-taken}
use Rattle.csv_script.proofs.blocks.take_line.Goals as goal

pub returns : goal.returns
returns g c kinds before rows row row_is line_is line_small is =
    let good : is_ok c.extend_from_slice.result ≡ true = search rules in
    let items = rw good at c.extend_from_slice.ensures.items in
    let small : length (c.make_room.new.lines.items ++ c.args.line.now) ≤ most_block_bytes = omega (arith, length-append c.make_room.new.lines.items c.args.line.now, c.in_ok-make_room.ensures.room line_small) in
    rw items (IsBlocked-taken kinds c.args.name.now before _ c.make_room.new.lines.items c.args.line.now rows row (c.in_ok-make_room.ensures.blocked line_small kinds before rows is) row_is line_is small)
