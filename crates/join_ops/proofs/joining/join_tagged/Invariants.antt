-- What is joined so far, and then the join of the other left rows.
use Rattle.std.proofs.Common.{◌≡◌, ◌++◌, ◌+◌, drop}
use Rattle.plan_laws.specs.KeptForm.{tagged_from}
use Rattle.join_ops.proofs.joining.join_tagged.Given as goal

abbrev pub invariant-loop-place : goal.invariant-loop-place
invariant-loop-place l = tagged_from l.first l.on l.left l.right ≡ l.joined.items ++ tagged_from (l.first + l.place) l.on (drop l.place l.left) l.right
