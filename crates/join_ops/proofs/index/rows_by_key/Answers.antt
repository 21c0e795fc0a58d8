use Rattle.std.proofs.Common.{rules}
use Rattle.join_ops.proofs.Keys.{rows_more}
use Rattle.join_ops.proofs.index.rows_by_key.Goals as goal

pub loop-row-preserved : goal.loop-row-preserved
loop-row-preserved c =
    rows_more c.args.on.now c.args.rights.now c.loop-row.index c.put_row.new.index c.in_ok-key.key c.row-item.result c.loop-row.row-index (search rules) c.row-item.is c.in_ok-key.ensures c.loop-row.invariant c.in_ok-put_row.ensures
