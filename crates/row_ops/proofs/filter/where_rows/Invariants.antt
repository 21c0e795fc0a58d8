-- What is given is the rows that are kept so far, and then what the other rows give.
use Rattle.std.proofs.Common.{◌≡◌, All, Ok, length, map}
use Rattle.std.specs.Vec.Iter.{into_iter_items, into_iter_len}
use Rattle.rows_core.specs.Value.{kind_of}
use Rattle.plan_core.specs.ExpressionKind.{IsTyped}
use Rattle.plan_core.specs.Filter.{filter_rows}
use Rattle.plan_core.specs.PlainExpr.{expr_of}
use Rattle.plan_laws.specs.GrowthOfRows.{joined}
use Rattle.row_ops.proofs.filter.where_rows.Given as goal

abbrev pub invariant-loop-row : goal.invariant-loop-row
invariant-loop-row l = record {
  left : into_iter_len l.row-iterator ≡ length (into_iter_items l.row-iterator);
  typed : All (λ row. IsTyped (map kind_of row) (expr_of l.test)) (into_iter_items l.row-iterator);
  given : filter_rows (expr_of l.test) l.fn.rows.items ≡ joined (Ok l.kept.items) (filter_rows (expr_of l.test) (into_iter_items l.row-iterator));
}
