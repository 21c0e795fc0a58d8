-- What is given is the groups so far, and then what the other keys give.
use Rattle.std.proofs.Common.{◌≡◌, drop, map}
use Rattle.plan_core.specs.ExpressionValue.{all_of}
use Rattle.plan_core.specs.Group.{group_row}
use Rattle.plan_evaluator.specs.Evaluation.{onto}
use Rattle.plan_evaluator.proofs.aggregate.groups_of.Given as goal

abbrev pub invariant-loop-key : goal.invariant-loop-key
invariant-loop-key l = all_of (map (group_row l.keys l.aggs l.rows) l.all_keys) ≡ onto l.groups.items (all_of (map (group_row l.keys l.aggs l.rows) (drop l.key-index l.all_keys)))
