-- What is given is the rows so far, and then those of the other groups.
use Rattle.std.proofs.Common.{◌≡◌, drop, map}
use Rattle.plan_core.specs.ExpressionValue.{all_of}
use Rattle.plan_laws.specs.KeptForm.{row_of_group}
use Rattle.group_fold.specs.Finish.{onto}
use Rattle.group_fold.proofs.finishing.finished_rows.Given as goal

abbrev pub invariant-loop-group : goal.invariant-loop-group
invariant-loop-group l = all_of (map row_of_group l.groups) ≡ onto l.rows.items (all_of (map row_of_group (drop l.group-index l.groups)))
