-- The open block was written, if it has a row.
use Rattle.std.proofs.Common.{◌≡◌, ◌<◌, length, arith}
use Rattle.std.proofs.lemmas.Bool.Decides.{nat_tests}
use Rattle.csv_script.proofs.Written.{on_ok, IsWritten-last, IsWritten-none}
use Rattle.csv_script.proofs.blocks.finish.Goals as goal

pub returns-then-is_empty : goal.returns-then-is_empty
returns-then-is_empty g c kinds before rows is =
    let none : length c.args.lines.now ≡ 0 = grind (arith, nat_tests) in
    IsWritten-none kinds c.args.name.now before _ c.args.lines.now rows is none

pub returns : goal.returns
returns g c =
    let some : 0 < length c.args.lines.now = grind (arith, nat_tests) in
    on_ok c.write_block.result (λ wrote kinds before rows is. IsWritten-last kinds c.args.name.now before _ _ c.args.lines.now rows is some wrote) c.write_block.ensures
