-- The rows so far that have the key, and then those of the other rows.
use Rattle.std.proofs.Common.{◌≡◌, ◌++◌, drop}
use Rattle.plan_core.specs.Group.{members_of}
use Rattle.plan_evaluator.proofs.aggregate.members_of.Given as goal

abbrev pub invariant-loop-row : goal.invariant-loop-row
invariant-loop-row l = members_of l.keys l.rows l.key ≡ l.members.items ++ members_of l.keys (drop l.row-index l.rows) l.key
