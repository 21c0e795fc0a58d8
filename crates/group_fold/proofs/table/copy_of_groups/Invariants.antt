-- The copies so far, with the groups that are still to come.
use Rattle.std.proofs.Common.{◌≡◌, ◌++◌}
use Rattle.group_fold.specs.Table.{groups_in}
use Rattle.group_fold.proofs.table.copy_of_groups.Given as goal

abbrev pub invariant-loop-key : goal.invariant-loop-key
invariant-loop-key l = l.groups.items ++ groups_in (λ accs. accs.items) l.key-iterator ≡ groups_in (λ accs. accs.items) l.table.entries
