-- The rows so far that agree.
use Rattle.std.proofs.Common.{◌≡◌, ◌++◌, take, map}
use Rattle.std.specs.List.{filter}
use Rattle.plan_core.specs.Join.{rows_agree}
use Rattle.plan_evaluator.proofs.operators.join_one.Given as goal

abbrev pub invariant-loop-right : goal.invariant-loop-right
invariant-loop-right l = l.joined.items ≡ l.initial.joined.items ++ map (λ right. l.left ++ right) (filter (rows_agree l.on l.left) (take l.right-index l.rights))
