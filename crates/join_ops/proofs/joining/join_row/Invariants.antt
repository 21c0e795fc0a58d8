-- The rows joined so far stand behind those that were there.
use Rattle.std.proofs.Common.{◌≡◌, ◌++◌, take, map}
use Rattle.join_ops.proofs.joining.join_row.Given as goal

abbrev pub invariant-loop-right : goal.invariant-loop-right
invariant-loop-right l = l.joined.items ≡ l.initial.joined.items ++ map (λ right. record { left = l.position; row = l.left ++ right.now }) (take l.right-index l.rights)
