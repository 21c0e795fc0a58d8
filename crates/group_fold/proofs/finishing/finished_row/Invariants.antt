-- What is given is the values so far, and then those of the other accumulators.
use Rattle.std.proofs.Common.{◌≡◌, drop, map}
use Rattle.plan_core.specs.ExpressionValue.{all_of}
use Rattle.plan_laws.specs.KeptForm.{value_of_acc, row_of_group}
use Rattle.group_fold.specs.Finish.{onto}
use Rattle.group_fold.proofs.finishing.finished_row.Given as goal

abbrev pub invariant-loop-acc : goal.invariant-loop-acc
invariant-loop-acc l = row_of_group l.group ≡ onto l.values.items (all_of (map value_of_acc (drop l.acc-index l.group.accs)))
