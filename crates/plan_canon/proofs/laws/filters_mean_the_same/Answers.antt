use Rattle.rows_core.specs.Equality.{row_eq-Decides}
use Rattle.plan_canon.proofs.StepMeaning.{joined_tests, tested_parts, tested_order, tested_distinct, no_test}
use Rattle.plan_canon.proofs.laws.filters_mean_the_same.Goals as goal

pub returns : goal.returns
returns c = record {
  joined = joined_tests;
  above_a_concatenation = tested_parts;
  above_an_order = tested_order c.total_order.ensures (λ a b e. (row_eq-Decides a b).0 e);
  above_a_distinct = tested_distinct c.total_order.ensures (λ a b e. (row_eq-Decides a b).0 e);
  by_true = no_test;
}
