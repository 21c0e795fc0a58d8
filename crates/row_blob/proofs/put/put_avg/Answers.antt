-- The two calls, one after the other.
use Rattle.std.specs.Int.{w64, w128, to_be_bytes}
use Rattle.row_blob.proofs.Appends.{append_two}
use Rattle.row_blob.proofs.put.put_avg.Goals as goal

pub returns : goal.returns
returns c =
    append_two c.put_u64.result c.args.out.now.items (to_be_bytes w128 c.args.sum_bits) c.put_u128.new.out.items (to_be_bytes w64 c.args.count) c.put_u64.new.out.items
    c.in_ok-put_u128.ensures c.put_u64.ensures
