use Rattle.std.proofs.Common.{refl, ◌++◌, map, rules}
use Rattle.std.specs.List.{filter}
use Rattle.plan_core.specs.Join.{join_rows, rows_agree}
use Rattle.plan_evaluator.proofs.Loops.{more}
use Rattle.plan_evaluator.proofs.operators.join_rows.Goals as goal

pub loop-left-preserved : goal.loop-left-preserved
loop-left-preserved c =
    more (λ lefts. join_rows c.args.on.now lefts c.args.rights.now) (λ left. map (λ right. left ++ right) (filter (rows_agree c.args.on.now left) c.args.rights.now)) (λ row rows. refl)
    c.args.lefts.now _ _ c.left-item.result c.loop-left.left-index (search rules) c.left-item.is c.loop-left.invariant c.in_ok-join_one.ensures
