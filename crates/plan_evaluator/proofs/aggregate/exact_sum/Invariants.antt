-- The sum so far and that of the other rows, and the bounds of the sum so far.
use Rattle.std.proofs.Common.{◌≡◌, ◌*◌, ◌^◌, ◌-◌, ◌+ℤ◌, drop, pos, neg_ℤ, ◌≤ℤ◌}
use Rattle.plan_core.specs.Aggregate.{exact_sum, values_of}
use Rattle.plan_evaluator.proofs.aggregate.exact_sum.Given as goal

abbrev pub invariant-loop-row : goal.invariant-loop-row
invariant-loop-row l = record {
  sum : exact_sum (values_of l.column l.rows) ≡ l.sum +ℤ exact_sum (values_of l.column (drop l.row-index l.rows));
  least : neg_ℤ (pos (l.row-index * 2 ^ 63)) ≤ℤ l.sum;
  most : l.sum ≤ℤ pos (l.row-index * (2 ^ 63 - 1));
}
