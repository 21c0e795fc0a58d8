-- The numbers, and the lists behind them.
use Rattle.std.specs.Int.{w32, w64, to_be_bytes}
use Rattle.record_codec.specs.Spelling.{lists_spelling}
use Rattle.record_codec.proofs.Joined.{behind_three}
use Rattle.record_codec.proofs.spelling.put_snapshot.Goals as goal

pub returns : goal.returns
returns c =
    behind_three c.args.out.now.items (to_be_bytes w32 c.args.whole.now.tick) (to_be_bytes w64 c.args.whole.now.next_file) (to_be_bytes w64 c.args.whole.now.next_id)
    (lists_spelling c.args.whole.now) c.in_ok-put_numbers.ensures c.in_ok-put_lists.ensures
