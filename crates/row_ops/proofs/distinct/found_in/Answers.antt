use Rattle.std.proofs.Common.{ap, refl, rules, ◌∙◌}
use Rattle.row_ops.proofs.Sets.{lent_next, passed_next}
use Rattle.row_ops.proofs.distinct.found_in.Goals as goal
use Rattle.row_ops.proofs.distinct.found_in.Goals.{then-contains+in_ok-insert, else-contains}

pub loop-row-preserved : goal.loop-row-preserved
loop-row-preserved c = elim c.if-contains.branch [
  | then-contains+in_ok-insert w ↦
      lent_next c.args.set.now.keys c.args.rows.now c.loop-row.row-index c.row-item.result (search rules) c.row-item.is c.loop-row.found.keys c.if-contains.found.keys _ refl (ap (λ found. found.keys) w.found-is ∙ w.in_ok-insert.ensures.keys) c.loop-row.invariant
  | else-contains w ↦
      passed_next c.args.set.now.keys c.args.rows.now c.loop-row.row-index c.row-item.result (search rules) c.row-item.is c.loop-row.found.keys c.if-contains.found.keys (search rules) (search rules) c.loop-row.invariant
]
