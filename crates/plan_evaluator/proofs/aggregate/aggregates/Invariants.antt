-- What is given is the values so far, and then what the other aggregates give.
use Rattle.std.proofs.Common.{◌≡◌, drop}
use Rattle.plan_evaluator.specs.Evaluation.{onto, aggregate_values}
use Rattle.plan_evaluator.proofs.aggregate.aggregates.Given as goal

abbrev pub invariant-loop-agg : goal.invariant-loop-agg
invariant-loop-agg l = aggregate_values l.aggs l.rows ≡ onto l.values.items (aggregate_values (drop l.agg-index l.aggs) l.rows)
