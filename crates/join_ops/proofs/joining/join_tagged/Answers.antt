use Rattle.std.proofs.Common.{refl, rules}
use Rattle.join_ops.proofs.Keys.{join_more}
use Rattle.join_ops.proofs.joining.join_tagged.Goals as goal

pub loop-place-preserved : goal.loop-place-preserved
loop-place-preserved c =
    join_more c.args.first _ c.args.on.now c.args.left.now c.args.right.now _ _ c.in_ok-index.index c.in_ok-key.key c.index-left-place.result c.loop-place.place
    (search rules) c.index-left-place.is refl c.in_ok-key.ensures c.in_ok-index.ensures c.loop-place.invariant c.in_ok-join_found.ensures
