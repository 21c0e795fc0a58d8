use Rattle.std.proofs.Common.{rules}
use Rattle.plan_evaluator.proofs.Loops.{distinct_more}
use Rattle.plan_evaluator.proofs.operators.distinct_rows.Goals as goal

pub loop-row-preserved : goal.loop-row-preserved
loop-row-preserved c =
    distinct_more c.args.rows.now _ _ c.row-item.result c.loop-row.row-index (search rules) c.row-item.is c.loop-row.invariant c.in_ok-put_new.ensures
