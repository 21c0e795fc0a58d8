-- What is joined so far, and then the join of the other left rows.
use Rattle.std.proofs.Common.{◌≡◌, ◌++◌, drop}
use Rattle.plan_core.specs.Join.{join_rows}
use Rattle.plan_evaluator.proofs.operators.join_rows.Given as goal

abbrev pub invariant-loop-left : goal.invariant-loop-left
invariant-loop-left l = join_rows l.on l.lefts l.rights ≡ l.joined.items ++ join_rows l.on (drop l.left-index l.lefts) l.rights
