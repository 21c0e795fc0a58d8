-- The values of the pairs so far.
use Rattle.std.proofs.Common.{◌≡◌, take, map}
use Rattle.join_ops.specs.RowsByKey.{right_values}
use Rattle.join_ops.proofs.key.right_key.Given as goal

abbrev pub invariant-loop-pair : goal.invariant-loop-pair
invariant-loop-pair l = map (λ v. v.now) l.values.items ≡ right_values (take l.pair-index l.on) l.row
